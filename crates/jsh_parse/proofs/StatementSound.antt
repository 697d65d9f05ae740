-- The statements that the reader takes are in the grammar.
use Rattle.std.proofs.Common.{◌≡◌, ◌≢◌, ℕ, zero, suc, ◌<◌, Bool, false, List, [], ◌∷◌, ◌++◌, Option, Some, None, refl, sym, ap, ◌∙◌, length, append_assoc, append-nil, subst}
use Rattle.jsh_tree.specs.declared.token.Span.{Span}
use Rattle.jsh_tree.specs.declared.token.Token.{Token}
use Rattle.jsh_tree.specs.declared.token.TokenKind.TheVariants as token
use Rattle.jsh_tree.specs.declared.statement.Stmt.{Stmt}
use Rattle.jsh_tree.specs.declared.statement.Stmt.TheVariants as statement
use Rattle.jsh_tree.specs.declared.statement.Block.{Block}
use Rattle.jsh_tree.specs.declared.statement.BlockStatement.{BlockStatement}
use Rattle.jsh_tree.specs.declared.statement.BlockStatement.TheVariants as block_statement
use Rattle.jsh_tree.specs.declared.statement.SwitchGroup.{SwitchGroup}
use Rattle.jsh_tree.specs.declared.statement.SwitchLabel.{SwitchLabel}
use Rattle.jsh_tree.specs.declared.statement.Variable.{Variable}
use Rattle.jsh_parse.specs.Forms.{form_of, is_semicolon, begins_label, ends_statements}
use Rattle.jsh_parse.specs.Statements.{first_span, IsFinal, IsVariable, IsLabel, AreLabels, IsStmt, IsBlock, AreStatements, AreGroups}
use Rattle.jsh_parse.specs.Reader.{sees, readers_over}
use Rattle.jsh_parse.specs.StatementReader.{Deeper, inner_of, final_read, begins_local, block_read, stmt_read, block_statement_read, statements_read, label_read, labels_read, groups_read, deeper_over, statement_readers}
use Rattle.jsh_parse.proofs.Gives.{Gives, given, nothing, of_given, weaker_given, then_given, choose, accepts}
use Rattle.jsh_parse.proofs.FormLemmas.{semicolon, empty_form, if_form, while_form, do_form, for_form, switch_form, break_form, continue_form, return_form, throw_form, try_form, by_form}
use Rattle.jsh_parse.proofs.SoundLists.{Front, IsSound, behind_front, with_last}
use Rattle.jsh_parse.proofs.SoundPaths.{impossible}
use Rattle.jsh_parse.proofs.Sound.{over_sound, joined_some, split_some, shorter}
use Rattle.jsh_parse.proofs.StatementParts.{final_sound, declaration-first, variable_sound, optional_sound, label_sound, labels_sound}
use Rattle.jsh_parse.proofs.StatementForms.{StmtFront, IsDeeperSound, AreDeeperSound, deeper_given, inner_sound, closed, block_sound, expression_sound, jump_sound, if_sound, while_sound, do_sound, for_sound, switch_sound, try_sound}

-- the expressions of the same depth
pub here_sound : (text : List ℕ) (room : ℕ) (deeper : Option Deeper) → AreDeeperSound text room deeper → IsSound text room (readers_over text (inner_of deeper))
here_sound text room deeper s = over_sound text room (inner_of deeper) (inner_sound text room deeper s)

pub stmt_read_sound : (text : List ℕ) (room : ℕ) (deeper : Option Deeper) → AreDeeperSound text room deeper → (ts : List Token) →
    Gives (StmtFront text room ts) (stmt_read text deeper ts)
stmt_read_sound text room deeper s [] = nothing
stmt_read_sound text room deeper s (t ∷ ts) =
    by_form (form_of t.kind) _ _ _ _ _ _ _ _ _ _ _ _ _
    (λ f. then_given _ _ _ (block_sound text room deeper s (t ∷ ts)) (λ b end h. given _ _ (closed h.0 h.1 (IsStmt.block h.2))))
    (λ f. given _ _ (closed (t ∷ []) refl (IsStmt.empty t (empty_form t.kind f))))
    (λ f. deeper_given text Given room deeper _ s (λ r d sound. if_sound text r d sound t (if_form t.kind f) ts))
    (λ f. deeper_given text Given room deeper _ s (λ r d sound. while_sound text r d sound t (while_form t.kind f) ts))
    (λ f. deeper_given text Given room deeper _ s (λ r d sound. do_sound text r d sound t (do_form t.kind f) ts))
    (λ f. deeper_given text Given room deeper _ s (λ r d sound. for_sound text r d sound t (for_form t.kind f) ts))
    (λ f. deeper_given text Given room deeper _ s (λ r d sound. switch_sound text r d sound t (switch_form t.kind f) ts))
    (λ f. jump_sound text room (statement.Break t.span) (t ∷ ts) (t ∷ []) ts refl (λ u. IsStmt.break_off t u (break_form t.kind f)))
    (λ f. jump_sound text room (statement.Continue t.span) (t ∷ ts) (t ∷ []) ts refl (λ u. IsStmt.continue_on t u (continue_form t.kind f)))
    (λ f. then_given _ _ _ (optional_sound is_semicolon text room _ here ts) (λ e rest h.
    jump_sound text room (statement.Return t.span e) (t ∷ ts) (t ∷ h.0) rest (ap (λ x. t ∷ x) h.1) (λ u k. IsStmt.return_from t u (return_form t.kind f) h.2 k)))
    (λ f. then_given _ _ _ (here.expr ts) (λ e rest h.
    jump_sound text room (statement.Throw t.span e) (t ∷ ts) (t ∷ h.0) rest (ap (λ x. t ∷ x) h.1) (λ u k. IsStmt.throw_up t u (throw_form t.kind f) h.2 k)))
    (λ f. try_sound text room deeper s t (try_form t.kind f) ts)
    (λ f. expression_sound text room _ here (t ∷ ts))
  where
    Given : ℕ → Stmt → List Token → Type 0
    Given k = StmtFront text k (t ∷ ts)

    here : IsSound text room (readers_over text (inner_of deeper))
    here = here_sound text room deeper s

-- ---- no statement is without tokens

pub behind_some : (l r : List Token) → r ≢ [] → l ++ r ≢ []
behind_some [] r h e = h e
behind_some (t ∷ l) r h e = cc

block_some : {text : List ℕ} {room : ℕ} {ts : List Token} {b : Block} → IsBlock text room ts b → ts ≢ []
block_some (IsBlock.braces t u a h b) e = cc

pub stmt_some : {text : List ℕ} {room : ℕ} {dangling : Bool} {ts : List Token} {s : Stmt} → IsStmt text room dangling ts s → ts ≢ []
stmt_some (IsStmt.block h) e = block_some h e
stmt_some (IsStmt.empty t a) e = cc
stmt_some (IsStmt.expression {l = l} u h a b) e = split_some l [] u e
stmt_some (IsStmt.if_alone t a c h) e = cc
stmt_some (IsStmt.if_else t u a c h b g) e = cc
stmt_some (IsStmt.while_do t a c h) e = cc
stmt_some (IsStmt.do_while t w u a h b c d) e = cc
stmt_some (IsStmt.for_do t p u v q a b c d f g h i j) e = cc
stmt_some (IsStmt.for_each t p n u q a b c d f g h i j) e = cc
stmt_some (IsStmt.for_each_inferred t p v n u q a b c d f g h i j) e = cc
stmt_some (IsStmt.switch t p q a c b h d) e = cc
stmt_some (IsStmt.break_off t u a b) e = cc
stmt_some (IsStmt.continue_on t u a b) e = cc
stmt_some (IsStmt.return_from t u a h b) e = cc
stmt_some (IsStmt.throw_up t u a h b) e = cc
stmt_some (IsStmt.try_block t a h c b) e = cc

label_some : {text : List ℕ} {ts : List Token} {l : SwitchLabel} → IsLabel text ts l → ts ≢ []
label_some (IsLabel.case_of c l u a b d f) e = cc
label_some (IsLabel.case_of_negative c m l u a b d f g) e = cc
label_some (IsLabel.default d u a b) e = cc

labels_some : {text : List ℕ} {ts : List Token} {ls : List SwitchLabel} → AreLabels text ts ls → ts ≢ []
labels_some (AreLabels.last_label h) = label_some h
labels_some (AreLabels.one_more_label {a = a} {b = b} h more) = joined_some a b (label_some h)

-- ---- statements in a row

-- what stands in front is one more statement of a block, in front of any others
pub record BlockStatementFront (text : List ℕ) (room : ℕ) (ts : List Token) (s : BlockStatement) (rest : List Token) : Type 0 where
  pub pre : List Token
  pub parts : ts ≡ pre ++ rest
  pub some : pre ≢ []
  pub holds : (behind : List Token) (others : List BlockStatement) → AreStatements text room behind others → AreStatements text room (pre ++ behind) (s ∷ others)

one_local : {text : List ℕ} {room : ℕ} {is_final : Bool} {f l : List Token} {v : Variable} (u : Token) → IsFinal f is_final → IsVariable text room l v →
    u.kind ≡ token.Semicolon → (span : Span) → span ≡ first_span (f ++ l) → (behind : List Token) (others : List BlockStatement) →
    AreStatements text room behind others →
    AreStatements text room ((f ++ (l ++ u ∷ [])) ++ behind) (block_statement.Local span is_final v ∷ others)
one_local {f = f} {l = l} u a v b span e behind others h =
    rw (e, append_assoc f (l ++ u ∷ []) behind, append_assoc l (u ∷ []) behind) (AreStatements.one_more_local u a v b h)

pub block_statement_sound : (text : List ℕ) (room : ℕ) (deeper : Option Deeper) → AreDeeperSound text room deeper → (ts : List Token) →
    Gives (BlockStatementFront text room ts) (block_statement_read text deeper ts)
block_statement_sound text room deeper s ts =
    choose (begins_local ts) _ _
    (λ a. let f = final_sound ts in
    then_given _ _ _ (variable_sound text room _ (here_sound text room deeper s) (final_read ts).1) (λ v rest h.
    then_given _ _ _ (accepts is_semicolon rest) (λ u end g. given _ _ (record {
      pre = f.0 ++ (h.0 ++ u ∷ []);
      parts = behind_front f.0 (h.0 ++ u ∷ []) ts (final_read ts).1 end f.1 (with_last h.0 (final_read ts).1 end u (h.1 ∙ ap (λ x. h.0 ++ x) g.0));
      some = behind_some f.0 (h.0 ++ u ∷ []) (split_some h.0 [] u);
      holds = one_local u f.2 h.2 (semicolon u.kind g.1) (first_span ts)
          (declaration-first f.2 h.2 ts rest (behind_front f.0 h.0 ts (final_read ts).1 rest f.1 h.1));
    }))))
    (λ a. then_given _ _ _ (stmt_read_sound text room deeper s ts) (λ one end h. given _ _ (record {
      pre = h.pre;
      parts = h.parts;
      some = stmt_some h.holds;
      holds = λ behind others. AreStatements.one_more_statement h.holds;
    })))

pub statements_read_sound : (most : ℕ) (text : List ℕ) (room : ℕ) (deeper : Option Deeper) → AreDeeperSound text room deeper → (ts : List Token) →
    Gives (λ inside rest. Front (λ pre. AreStatements text room pre inside) ts rest) (statements_read most text deeper ts)
unfolding statements_read
statements_read_sound zero text room deeper s ts = nothing
statements_read_sound (suc most) text room deeper s [] = given _ _ ([], refl, AreStatements.no_statements)
statements_read_sound (suc most) text room deeper s (t ∷ ts) =
    choose (ends_statements t.kind) _ _
    (λ a. given _ _ ([], refl, AreStatements.no_statements))
    (λ a. then_given _ _ _ (block_statement_sound text room deeper s (t ∷ ts)) (λ one rest h.
    then_given _ _ _ (statements_read_sound most text room deeper s rest) (λ others end g. given _ _ (
      h.pre ++ g.0,
      behind_front h.pre g.0 (t ∷ ts) rest end h.parts g.1,
      h.holds g.0 others g.2,
    ))))

no_statement : {text : List ℕ} {room : ℕ} {ts : List Token} → AreStatements text room ts [] → ts ≡ []
no_statement AreStatements.no_statements = refl

-- no group begins without a label
pub groups_read_sound : (most : ℕ) (text : List ℕ) (room : ℕ) (deeper : Option Deeper) → AreDeeperSound text room deeper → (ts : List Token) →
    Gives (λ gs rest. (pre : List Token) × (ts ≡ pre ++ rest) × AreGroups text room pre gs × (sees begins_label ts ≡ false → gs ≡ [])) (groups_read most text deeper ts)
unfolding groups_read
groups_read_sound zero text room deeper s ts = nothing
groups_read_sound (suc most) text room deeper s ts =
    choose (sees begins_label ts) _ _
    (λ a. then_given _ _ _ (labels_sound (suc (length ts)) text ts) (λ labels rest h.
    then_given _ _ _ (statements_read_sound (suc (length rest)) text room deeper s rest) (λ inside behind g.
    then_given _ _ _ (groups_read_sound most text room deeper s behind) (λ others end k. given _ _ (
      h.0 ++ (g.0 ++ k.0),
      behind_front h.0 (g.0 ++ k.0) ts rest end h.1 (behind_front g.0 k.0 rest behind end g.1 k.1),
      AreGroups.one_more_group h.2 g.2
          (λ none. k.3 (ap (sees begins_label) (sym (g.1 ∙ ap (λ x. x ++ behind) (no_statement (rw none at g.2)))) ∙ h.3)) k.2,
      λ no. impossible _ no a,
    )))))
    (λ a. given _ _ ([], refl, AreGroups.no_groups, λ no. refl))

-- ---- all readers

deeper_over_sound : (text : List ℕ) (room : ℕ) (deeper : Option Deeper) → AreDeeperSound text room deeper → IsDeeperSound text room (deeper_over text deeper)
deeper_over_sound text room deeper s = record {
  inner = here_sound text room deeper s;
  stmt = stmt_read_sound text room deeper s;
  statements = λ ts. statements_read_sound (suc (length ts)) text room deeper s ts;
  groups = λ ts. weaker_given _ _ (groups_read_sound (suc (length ts)) text room deeper s ts) (λ gs rest h. (h.0, h.1, h.2));
}

pub statement_readers_sound : (text : List ℕ) (room : ℕ) → IsDeeperSound text room (statement_readers text room)
unfolding statement_readers
statement_readers_sound text zero = deeper_over_sound text zero None tt
statement_readers_sound text (suc room) = deeper_over_sound text (suc room) (Some (statement_readers text room)) (statement_readers_sound text room)

-- what a reader gives is in the grammar
pub stmt_sound : (text : List ℕ) (room : ℕ) (ts rest : List Token) (s : Stmt) → (statement_readers text room).stmt ts ≡ Some (s, rest) → StmtFront text room ts s rest
stmt_sound text room ts rest s h = of_given _ ((statement_readers text room).stmt ts) s rest ((statement_readers_sound text room).stmt ts) h

pub statements_sound : (text : List ℕ) (room : ℕ) (ts rest : List Token) (inside : List BlockStatement) →
    (statement_readers text room).statements ts ≡ Some (inside, rest) → (pre : List Token) × (ts ≡ pre ++ rest) × AreStatements text room pre inside
statements_sound text room ts rest inside h =
    of_given _ ((statement_readers text room).statements ts) inside rest ((statement_readers_sound text room).statements ts) h

pub groups_sound : (text : List ℕ) (room : ℕ) (ts rest : List Token) (groups : List SwitchGroup) →
    (statement_readers text room).groups ts ≡ Some (groups, rest) → (pre : List Token) × (ts ≡ pre ++ rest) × AreGroups text room pre groups
groups_sound text room ts rest groups h = of_given _ ((statement_readers text room).groups ts) groups rest ((statement_readers_sound text room).groups ts) h

-- where nothing is left behind, the whole list spells the statement
pub stmt_sound_whole : (text : List ℕ) (room : ℕ) (ts : List Token) (s : Stmt) → (statement_readers text room).stmt ts ≡ Some (s, []) →
    (dangling : Bool) × IsStmt text room dangling ts s
stmt_sound_whole text room ts s h =
    let found = stmt_sound text room ts [] s h in
    (found.dangling, subst (λ (x : List Token). IsStmt text room found.dangling x s) (sym (found.parts ∙ append-nil found.pre)) found.holds)

pub statements_sound_whole : (text : List ℕ) (room : ℕ) (ts : List Token) (inside : List BlockStatement) →
    (statement_readers text room).statements ts ≡ Some (inside, []) → AreStatements text room ts inside
statements_sound_whole text room ts inside h = let found = statements_sound text room ts [] inside h in rw (found.1, append-nil found.0) found.2

-- fewer tokens are left than there were
pub stmt_consumes : (text : List ℕ) (room : ℕ) (ts rest : List Token) (s : Stmt) → (statement_readers text room).stmt ts ≡ Some (s, rest) → length rest < length ts
stmt_consumes text room ts rest s h = let found = stmt_sound text room ts rest s h in rw found.parts (shorter found.pre rest (stmt_some found.holds))

-- the same of what a block, a `switch` and a label take one at a time
pub block_statement_consumes : (text : List ℕ) (room : ℕ) (deeper : Option Deeper) → AreDeeperSound text room deeper → (ts rest : List Token) (s : BlockStatement) →
    block_statement_read text deeper ts ≡ Some (s, rest) → length rest < length ts
block_statement_consumes text room deeper sound ts rest s h =
    let found = of_given _ (block_statement_read text deeper ts) s rest (block_statement_sound text room deeper sound ts) h in
    rw found.parts (shorter found.pre rest found.some)

pub block_consumes : (text : List ℕ) (room : ℕ) (deeper : Option Deeper) → AreDeeperSound text room deeper → (ts rest : List Token) (b : Block) →
    block_read deeper ts ≡ Some (b, rest) → length rest < length ts
block_consumes text room deeper sound ts rest b h =
    let found = of_given _ (block_read deeper ts) b rest (block_sound text room deeper sound ts) h in
    rw found.1 (shorter found.0 rest (block_some found.2))

pub label_consumes : (text : List ℕ) (ts rest : List Token) (l : SwitchLabel) → label_read text ts ≡ Some (l, rest) → length rest < length ts
label_consumes text ts rest l h =
    let found = of_given _ (label_read text ts) l rest (label_sound text ts) h in
    rw found.1 (shorter found.0 rest (label_some found.2))

pub labels_consume : (most : ℕ) (text : List ℕ) (ts rest : List Token) (ls : List SwitchLabel) → labels_read most text ts ≡ Some (ls, rest) → length rest < length ts
labels_consume most text ts rest ls h =
    let found = of_given _ (labels_read most text ts) ls rest (labels_sound most text ts) h in
    rw found.1 (shorter found.0 rest (labels_some found.2))
