-- A statement that begins as neither a block nor an expression does is another one.
use Rattle.std.proofs.Common.{◌≡◌, ◌≢◌, ℕ, Bool, true, List, [], ◌∷◌, ◌++◌, Option, Some, None, refl, sym, ap, ◌∙◌, append_assoc}
use Rattle.jsh_tree.specs.declared.token.Span.{Span}
use Rattle.jsh_tree.specs.declared.token.Token.{Token}
use Rattle.jsh_tree.specs.declared.expression.Expr.{Expr}
use Rattle.jsh_tree.specs.declared.expression.Identifier.{Identifier}
use Rattle.jsh_tree.specs.declared.expression.TypeUse.{TypeUse}
use Rattle.jsh_tree.specs.declared.statement.Stmt.{Stmt, out-roll-Stmt}
use Rattle.jsh_tree.specs.declared.statement.Stmt.TheVariants as statement
use Rattle.jsh_tree.specs.declared.statement.BlockStatement.TheOpen.{Stmt-F}
use Rattle.jsh_tree.specs.declared.statement.Block.{Block}
use Rattle.jsh_tree.specs.declared.statement.SwitchGroup.{SwitchGroup}
use Rattle.jsh_tree.specs.declared.statement.CatchClause.{CatchClause}
use Rattle.jsh_tree.specs.declared.statement.ForStart.{ForStart}
use Rattle.jsh_parse.specs.Leaves.{identifier_of}
use Rattle.jsh_parse.specs.Grammar.{IsExpr}
use Rattle.jsh_parse.specs.declared.forms.Form.TheVariants as form
use Rattle.jsh_parse.specs.Forms.{form_of}
use Rattle.jsh_parse.specs.Statements.{IsStmt, IsBlock}
use Rattle.jsh_parse.proofs.Fronts.{front-expr}
use Rattle.jsh_parse.proofs.StatementFronts.{opens-statement}
use Rattle.jsh_decl.specs.Declarations.{is_other_statement}

-- ---- by the variant: each but a block and an expression is another statement

other-Empty : (span : Span) → is_other_statement (statement.Empty span) ≡ true
other-Empty span = rw (sym (statement.rolls-Empty span), out-roll-Stmt (Stmt-F.Empty span)) refl

other-If : (span : Span) (condition : Expr) (first : Stmt) (otherwise : Option Stmt) → is_other_statement (statement.If span condition first otherwise) ≡ true
other-If span condition first otherwise =
    rw (sym (statement.rolls-If span condition first otherwise), out-roll-Stmt (Stmt-F.If span condition first otherwise)) refl

other-While : (span : Span) (condition : Expr) (body : Stmt) → is_other_statement (statement.While span condition body) ≡ true
other-While span condition body = rw (sym (statement.rolls-While span condition body), out-roll-Stmt (Stmt-F.While span condition body)) refl

other-Do : (span : Span) (body : Stmt) (condition : Expr) → is_other_statement (statement.Do span body condition) ≡ true
other-Do span body condition = rw (sym (statement.rolls-Do span body condition), out-roll-Stmt (Stmt-F.Do span body condition)) refl

other-For : (span : Span) (begins : ForStart) (condition update : Option Expr) (body : Stmt) → is_other_statement (statement.For span begins condition update body) ≡ true
other-For span begins condition update body =
    rw (sym (statement.rolls-For span begins condition update body), out-roll-Stmt (Stmt-F.For span begins condition update body)) refl

other-ForEach : (span : Span) (is_final : Bool) (written : Option TypeUse) (name : Identifier) (array : Expr) (body : Stmt) →
    is_other_statement (statement.ForEach span is_final written name array body) ≡ true
other-ForEach span is_final written name array body =
    rw (sym (statement.rolls-ForEach span is_final written name array body), out-roll-Stmt (Stmt-F.ForEach span is_final written name array body)) refl

other-Switch : (span : Span) (selector : Expr) (groups : List SwitchGroup) → is_other_statement (statement.Switch span selector groups) ≡ true
other-Switch span selector groups = rw (sym (statement.rolls-Switch span selector groups), out-roll-Stmt (Stmt-F.Switch span selector groups)) refl

other-Break : (span : Span) → is_other_statement (statement.Break span) ≡ true
other-Break span = rw (sym (statement.rolls-Break span), out-roll-Stmt (Stmt-F.Break span)) refl

other-Continue : (span : Span) → is_other_statement (statement.Continue span) ≡ true
other-Continue span = rw (sym (statement.rolls-Continue span), out-roll-Stmt (Stmt-F.Continue span)) refl

other-Return : (span : Span) (value : Option Expr) → is_other_statement (statement.Return span value) ≡ true
other-Return span value = rw (sym (statement.rolls-Return span value), out-roll-Stmt (Stmt-F.Return span value)) refl

other-Throw : (span : Span) (value : Expr) → is_other_statement (statement.Throw span value) ≡ true
other-Throw span value = rw (sym (statement.rolls-Throw span value), out-roll-Stmt (Stmt-F.Throw span value)) refl

other-Try : (span : Span) (inside : Block) (catches : List CatchClause) → is_other_statement (statement.Try span inside catches) ≡ true
other-Try span inside catches = rw (sym (statement.rolls-Try span inside catches), out-roll-Stmt (Stmt-F.Try span inside catches)) refl

-- ---- by the first token

head_kind : (t u : Token) (ts us : List Token) → t ∷ ts ≡ u ∷ us → t.kind ≡ u.kind
head_kind t u ts us e = ap (λ (x : Token). x.kind) (first e)
  where
    first : t ∷ ts ≡ u ∷ us → t ≡ u
    first e = cc

-- what begins an expression begins no other form
expression_form : {text : List ℕ} {room : ℕ} {l : List Token} {e : Expr} → IsExpr text room l e → (t : Token) (ts more : List Token) →
    t ∷ ts ≡ l ++ more → form_of t.kind ≡ form.Expression
expression_form {l = []} h t ts more e = absurd (front-expr h)
expression_form {l = u ∷ l} h t ts more e = ap form_of (head_kind t u ts (l ++ more) e) ∙ (opens-statement u.kind (front-expr h).0).0

block_form : {text : List ℕ} {room : ℕ} {l : List Token} {b : Block} → IsBlock text room l b → (t : Token) (ts more : List Token) →
    t ∷ ts ≡ l ++ more → form_of t.kind ≡ form.Block
block_form (IsBlock.braces {l = l} u v a h b) t ts more e = ap form_of (head_kind t u ts ((l ++ v ∷ []) ++ more) e ∙ a)

-- a statement that begins as neither a block nor an expression does is another one
pub other_sound : {text : List ℕ} {room : ℕ} {dangling : Bool} {l : List Token} {s : Stmt} → IsStmt text room dangling l s →
    (t : Token) (ts more : List Token) → t ∷ ts ≡ l ++ more → form_of t.kind ≢ form.Block → form_of t.kind ≢ form.Expression → is_other_statement s ≡ true
other_sound (IsStmt.block h) t ts more e f g = absurd (f (block_form h t ts more e))
other_sound (IsStmt.empty u a) t ts more e f g = other-Empty u.span
other_sound (IsStmt.expression {l = l} u h a b) t ts more e f g = absurd (g (expression_form h t ts (u ∷ more) (e ∙ append_assoc l (u ∷ []) more)))
other_sound (IsStmt.if_alone {e = c} {then = s} u a d h) t ts more e f g = other-If u.span c s None
other_sound (IsStmt.if_else {e = c} {then = s} {otherwise = o} u v a d h b k) t ts more e f g = other-If u.span c s (Some o)
other_sound (IsStmt.while_do {e = c} {body = s} u a d h) t ts more e f g = other-While u.span c s
other_sound (IsStmt.do_while {body = s} {e = c} u w v a h b d k) t ts more e f g = other-Do u.span s c
other_sound (IsStmt.for_do {begins = i} {e = c} {update = o} {body = s} u p v w q a b d h k l m n r) t ts more e f g = other-For u.span i c o s
other_sound (IsStmt.for_each {is_final = is_final} {written = written} {e = c} {body = s} u p n v q a b d h k l m o r) t ts more e f g =
    other-ForEach u.span is_final (Some written) (identifier_of _ n) c s
other_sound (IsStmt.for_each_inferred {is_final = is_final} {e = c} {body = s} u p v n w q a b d h k l m o r) t ts more e f g =
    other-ForEach u.span is_final None (identifier_of _ n) c s
other_sound (IsStmt.switch {e = c} {groups = groups} u p q a d b h k) t ts more e f g = other-Switch u.span c groups
other_sound (IsStmt.break_off u v a b) t ts more e f g = other-Break u.span
other_sound (IsStmt.continue_on u v a b) t ts more e f g = other-Continue u.span
other_sound (IsStmt.return_from {e = c} u v a h b) t ts more e f g = other-Return u.span c
other_sound (IsStmt.throw_up {e = c} u v a h b) t ts more e f g = other-Throw u.span c
other_sound (IsStmt.try_block {inside = b} {catches = cs} u a h d k) t ts more e f g = other-Try u.span b cs
