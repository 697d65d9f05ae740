-- An expression that may be a statement is in the table as one.
use Rattle.std.proofs.Common.{◌≡◌, ◌≢◌, ℕ, suc, Bool, true, false, ◌&&◌, List, [], ◌∷◌, ◌++◌, length, ◌+◌, refl, sym, ◌∙◌, subst, append_assoc}
use Rattle.jsh_tree.specs.declared.token.Token.{Token}
use Rattle.jsh_tree.specs.declared.token.TokenKind.TheVariants as token
use Rattle.jsh_tree.specs.declared.expression.Identifier.{Identifier}
use Rattle.jsh_tree.specs.declared.expression.Expr.{Expr}
use Rattle.jsh_tree.specs.declared.expression.PathPart.{PathPart}
use Rattle.jsh_tree.specs.declared.expression.PathPart.TheVariants as part
use Rattle.jsh_grammar.specs.Productions as table
use Rattle.jsh_parse.specs.Leaves.{identifier_of, type_of, is_step, is_open_creation, begins_with_index}
use Rattle.jsh_parse.specs.Grammar as grammar
use Rattle.jsh_parse.specs.Grammar.{IsExpr, IsConditional, IsLevel, IsUnary, IsPostfix, IsPath, AreParts, IsPrimary}
use Rattle.jsh_parse.specs.Statements.{is_statement, ends_in_call}
use Rattle.jsh_parse.proofs.SoundPaths.{impossible}
use Rattle.jsh_parse.proofs.TableSymbols.{none, among, in_part, Whole, AreWhole, produced, at_last, IsDeeper, then_deeper, deeper_last, deep_last}
use Rattle.jsh_parse.proofs.TableLayers.{index-Index}
use Rattle.jsh_parse.proofs.TableKinds.{assignment_kind, step_kind, postfix_kind}
use Rattle.jsh_parse.proofs.TableDerived.{one_of, field_place, element_place, no_more, not_first, IsSorted, closed, sized, expr_derived, unary_target, postfix_target, path_target, primary_derived, arguments_derived}
use Rattle.jsh_parse.proofs.StatementTableLayers.{statement-Unary, statement-Path, statement-Literal, statement-This, statement-Parenthesized, statement-Name, statement-NewArray, statement-NewArrayOf, statement-Conditional, statement-Binary, statement-Cast, call-Field, call-Index}

-- ---- members that end in a call

-- members, and a call behind them
abbrev AreCalled : ℕ → List Token → Type 0
AreCalled room ts = AreWhole room (table.part table.members ∷ table.a token.Dot ∷ table.a token.Identifier ∷ table.deep table.arguments ∷ []) ts

-- one more place in front of members and a call
called_place : {room : ℕ} {l r : List Token} → Whole table.place room l → AreCalled room r → AreCalled room (l ++ r)
called_place {room = room} {l = l} is (in_part {l = m} {r = s} members rest) =
    subst (λ (ts : List Token). AreCalled room ts) (append_assoc l m s) (in_part (produced table.of_place (in_part is (at_last members))) rest)

-- one more call in front of them
called_before : {room : ℕ} {l r : List Token} (t n : Token) → t.kind ≡ token.Dot → n.kind ≡ token.Identifier → IsDeeper table.arguments room l →
    AreCalled room r → AreCalled room (t ∷ n ∷ (l ++ r))
called_before {room = room} {l = l} t n h hn call (in_part {l = m} {r = s} members rest) =
    subst (λ (ts : List Token). AreCalled room (t ∷ n ∷ ts)) (append_assoc l m s)
    (in_part {l = t ∷ n ∷ (l ++ m)} (produced table.of_call (one_of t h (one_of n hn (then_deeper call (at_last members))))) rest)

field_called : {room : ℕ} {r : List Token} (rest : List PathPart) (name : Identifier) (t n : Token) → t.kind ≡ token.Dot → n.kind ≡ token.Identifier →
    (ends_in_call rest ≡ true → AreCalled room r) → ends_in_call (part.Field name ∷ rest) ≡ true → AreCalled room (t ∷ n ∷ r)
field_called [] name t n h hn more may = impossible _ (call-Field name) may
field_called (q ∷ rest) name t n h hn more may = called_place {l = t ∷ n ∷ []} (field_place t n h hn) (more may)

call_called : {room : ℕ} {l r : List Token} (rest : List PathPart) (p : PathPart) (t n : Token) → t.kind ≡ token.Dot → n.kind ≡ token.Identifier →
    IsDeeper table.arguments room l → (rest ≡ [] → r ≡ []) → (ends_in_call rest ≡ true → AreCalled room r) → ends_in_call (p ∷ rest) ≡ true →
    AreCalled room (t ∷ n ∷ (l ++ r))
call_called {room = room} {l = l} [] p t n h hn call ends more may =
    subst (λ (ts : List Token). AreCalled room (t ∷ n ∷ (l ++ ts))) (sym (ends refl))
    (in_part {l = []} (produced table.no_member none) (one_of t h (one_of n hn (then_deeper call none))))
call_called (q ∷ rest) p t n h hn call ends more may = called_before t n h hn call (more may)

index_called : {room : ℕ} {l r : List Token} (rest : List PathPart) (inner : Expr) (t u : Token) →
    t.kind ≡ token.LeftBracket → Whole table.expression room l → u.kind ≡ token.RightBracket →
    (ends_in_call rest ≡ true → AreCalled (suc room) r) → ends_in_call (part.Index inner ∷ rest) ≡ true → AreCalled (suc room) (t ∷ (l ++ u ∷ r))
index_called [] inner t u h is hu more may = impossible _ (call-Index inner) may
index_called {room = room} {l = l} {r = r} (q ∷ rest) inner t u h is hu more may =
    subst (λ (ts : List Token). AreCalled (suc room) (t ∷ ts)) (append_assoc l (u ∷ []) r)
    (called_place {l = t ∷ (l ++ u ∷ [])} (element_place t u h is hu) (more may))

parts_called : {text : List ℕ} {room : ℕ} {ts : List Token} {ps : List PathPart} → AreParts text room ts ps → ends_in_call ps ≡ true → AreCalled room ts
parts_called grammar.no_parts may = cc
parts_called {text = text} (grammar.one_more_field {rest = rest} t n h hn ds) may =
    field_called rest (identifier_of text n) t n h hn (λ m. parts_called ds m) may
parts_called {text = text} (grammar.one_more_call {arguments = arguments} {rest = rest} t n h hn d ds) may =
    call_called rest (part.Call (identifier_of text n) arguments) t n h hn (arguments_derived d) (no_more ds) (λ m. parts_called ds m) may
parts_called (grammar.one_more_index {inner = inner} {rest = rest} t u h d hu ds) may =
    index_called rest inner t u h (expr_derived d) hu (λ m. parts_called ds m) may

-- ---- calls behind the creation of an array

created_field : {room : ℕ} {l r : List Token} → Whole table.open_creation room l → (t n : Token) → t.kind ≡ token.Dot → n.kind ≡ token.Identifier →
    AreCalled room r → Whole table.statement_expression room (l ++ t ∷ n ∷ r)
created_field creation t n h hn (in_part {l = m} {r = s} members call) =
    produced table.of_selected_call_statement
    (in_part creation (in_part {l = t ∷ n ∷ m} (produced table.of_selected_field (one_of t h (one_of n hn (at_last members)))) call))

created_call : {room : ℕ} {l c r : List Token} → Whole table.open_creation room l → (t n : Token) → t.kind ≡ token.Dot → n.kind ≡ token.Identifier →
    IsDeeper table.arguments room c → AreCalled room r → Whole table.statement_expression room (l ++ t ∷ n ∷ (c ++ r))
created_call {room = room} {l = l} {c = c} creation t n h hn is (in_part {l = m} {r = s} members call) =
    subst (λ (ts : List Token). Whole table.statement_expression room (l ++ t ∷ n ∷ ts)) (append_assoc c m s)
    (produced table.of_selected_call_statement
    (in_part creation (in_part {l = t ∷ n ∷ (c ++ m)} (produced table.of_selected_call (one_of t h (one_of n hn (then_deeper is (at_last members))))) call)))

field_statement : {room : ℕ} {l r : List Token} (rest : List PathPart) (name : Identifier) (t n : Token) → Whole table.open_creation room l →
    t.kind ≡ token.Dot → n.kind ≡ token.Identifier → (ends_in_call rest ≡ true → AreCalled room r) → ends_in_call (part.Field name ∷ rest) ≡ true →
    Whole table.statement_expression room (l ++ t ∷ n ∷ r)
field_statement [] name t n creation h hn more may = impossible _ (call-Field name) may
field_statement (q ∷ rest) name t n creation h hn more may = created_field creation t n h hn (more may)

call_statement : {room : ℕ} {l c r : List Token} (rest : List PathPart) (p : PathPart) (t n : Token) → Whole table.open_creation room l →
    t.kind ≡ token.Dot → n.kind ≡ token.Identifier → IsDeeper table.arguments room c → (rest ≡ [] → r ≡ []) →
    (ends_in_call rest ≡ true → AreCalled room r) → ends_in_call (p ∷ rest) ≡ true → Whole table.statement_expression room (l ++ t ∷ n ∷ (c ++ r))
call_statement {room = room} {l = l} {c = c} [] p t n creation h hn is ends more may =
    subst (λ (ts : List Token). Whole table.statement_expression room (l ++ t ∷ n ∷ (c ++ ts))) (sym (ends refl))
    (produced table.of_created_call_statement (in_part creation (one_of t h (one_of n hn (then_deeper is none)))))
call_statement (q ∷ rest) p t n creation h hn is ends more may = created_call creation t n h hn is (more may)

parts_statement : {text : List ℕ} {room : ℕ} {l ts : List Token} {ps : List PathPart} → Whole table.open_creation room l → AreParts text room ts ps →
    ps ≢ [] → begins_with_index ps ≡ false → ends_in_call ps ≡ true → Whole table.statement_expression room (l ++ ts)
parts_statement creation grammar.no_parts some other may = absurd (some refl)
parts_statement {text = text} creation (grammar.one_more_field {rest = rest} t n h hn ds) some other may =
    field_statement rest (identifier_of text n) t n creation h hn (λ m. parts_called ds m) may
parts_statement {text = text} creation (grammar.one_more_call {arguments = arguments} {rest = rest} t n h hn d ds) some other may =
    call_statement rest (part.Call (identifier_of text n) arguments) t n creation h hn (arguments_derived d) (no_more ds) (λ m. parts_called ds m) may
parts_statement creation (grammar.one_more_index {inner = inner} {rest = rest} t u h d hu ds) some other may = let is = index-Index inner rest in cc

-- ---- the families of the grammar

statement_with : {room : ℕ} {l r : List Token} {b : Bool} (first : Expr) → IsSorted room l first → AreCalled room r →
    (Whole table.open_creation room l → b ≡ false → Whole table.statement_expression room (l ++ r)) → (is_open_creation first && b) ≡ false →
    Whole table.statement_expression room (l ++ r)
statement_with first (closed is) called created free = produced table.of_call_statement (in_part is called)
statement_with first (sized is opens) called created free = created is (not_first first opens free)

primary_statement : {text : List ℕ} {room : ℕ} {ts : List Token} {e : Expr} → IsPrimary text room ts e → is_statement e ≡ true →
    Whole table.statement_expression room ts
primary_statement (grammar.literal t value is) may = impossible _ (statement-Literal t.span value) may
primary_statement (grammar.this t h) may = impossible _ (statement-This t.span) may
primary_statement (grammar.parenthesized {inner = inner} t u h d hu) may = impossible _ (statement-Parenthesized t.span inner) may
primary_statement {text = text} (grammar.name n h) may = impossible _ (statement-Name (identifier_of text n)) may
primary_statement (grammar.call n h d) may = produced table.of_simple_call_statement (one_of n h (deeper_last (arguments_derived d)))
primary_statement (grammar.super_call t v n h hv hn d) may =
    produced table.of_super_call_statement (one_of t h (one_of v hv (one_of n hn (deeper_last (arguments_derived d)))))
primary_statement (grammar.new_object t n h hn d) may = produced table.of_new_statement (one_of t h (one_of n hn (deeper_last (arguments_derived d))))
primary_statement {text = text} (grammar.new_array {dims = dims} {sizes = sizes} t n h hn d some b) may =
    impossible _ (statement-NewArray t.span (type_of text n (length sizes + dims)) sizes) may
primary_statement {text = text} (grammar.new_array_of {dims = dims} {values = values} t n u h hn b few d) may =
    impossible _ (statement-NewArrayOf t.span (type_of text n dims) u.span values) may

path_statement : {text : List ℕ} {room : ℕ} {ts : List Token} {e : Expr} → IsPath text room ts e → is_statement e ≡ true →
    Whole table.statement_expression room ts
path_statement (grammar.alone d) may = primary_statement d may
path_statement (grammar.with_parts {first = first} {rest = rest} d ds some free) may =
    statement_with first (primary_derived d) (parts_called ds (sym (statement-Path first rest) ∙ may))
    (λ creation other. parts_statement creation ds some other (sym (statement-Path first rest) ∙ may)) free

postfix_statement : {text : List ℕ} {room : ℕ} {ts : List Token} {e : Expr} → IsPostfix text room ts e → is_statement e ≡ true →
    Whole table.statement_expression room ts
postfix_statement (grammar.unstepped d) may = path_statement d may
postfix_statement (grammar.stepped t op d target is) may =
    produced table.of_stepped_statement (in_part (path_target d target) (among t (postfix_kind t.kind op is) tt none))

unary_statement : {text : List ℕ} {room : ℕ} {ts : List Token} {e : Expr} → IsUnary text room ts e → is_statement e ≡ true →
    Whole table.statement_expression room ts
unary_statement (grammar.prefixed {inner = inner} t op is d target) may =
    let step : is_step op ≡ true = sym (statement-Unary t.span op inner) ∙ may in
    produced table.of_step_statement (among t (step_kind t.kind op is step) tt (deep_last (unary_target d (target step))))
unary_statement {text = text} (grammar.cast {dims = dims} {inner = inner} t n u h hn b hu d sign) may =
    impossible _ (statement-Cast t.span (type_of text n dims) inner) may
unary_statement (grammar.postfix d) may = postfix_statement d may

level_statement : {text : List ℕ} {level room : ℕ} {ts : List Token} {e : Expr} → IsLevel text level room ts e → is_statement e ≡ true →
    Whole table.statement_expression room ts
level_statement (grammar.next_level less d) may = level_statement d may
level_statement (grammar.run {first = first} {rest = rest} d ds some) may = impossible _ (statement-Binary first rest) may
level_statement (grammar.single_operand d) may = unary_statement d may

conditional_statement : {text : List ℕ} {room : ℕ} {ts : List Token} {e : Expr} → IsConditional text room ts e → is_statement e ≡ true →
    Whole table.statement_expression room ts
conditional_statement (grammar.operators d) may = level_statement d may
conditional_statement (grammar.choice {condition = condition} {yes = left} {no = right} t u d h dl hu dr) may =
    impossible _ (statement-Conditional condition left right) may

pub expression_statement : {text : List ℕ} {room : ℕ} {ts : List Token} {e : Expr} → IsExpr text room ts e → is_statement e ≡ true →
    Whole table.statement_expression room ts
expression_statement (grammar.conditional d) may = conditional_statement d may
expression_statement (grammar.assignment t op d target is v) may =
    produced table.of_assignment_statement (in_part (postfix_target d target) (among t (assignment_kind t.kind op is) tt (deep_last (expr_derived v))))
