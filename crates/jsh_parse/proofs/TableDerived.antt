-- What the grammar of expressions spells is in the table.
use Rattle.std.proofs.Common.{◌≡◌, ◌≢◌, ℕ, suc, ◌+◌, ◌<◌, ◌≤◌, Bool, true, false, ◌&&◌, List, [], ◌∷◌, ◌++◌, Some, length, refl, sym, ◌∙◌, subst, arith, append_assoc, append-nil}
use Rattle.jsh_tree.specs.declared.token.Token.{Token}
use Rattle.jsh_tree.specs.declared.token.TokenKind.{TokenKind}
use Rattle.jsh_tree.specs.declared.token.TokenKind.TheVariants as token
use Rattle.jsh_tree.specs.declared.expression.BinaryOperator.{BinaryOperator}
use Rattle.jsh_tree.specs.declared.expression.UnaryOperator.{UnaryOperator}
use Rattle.jsh_tree.specs.declared.expression.Identifier.{Identifier}
use Rattle.jsh_tree.specs.declared.expression.TypeUse.{TypeUse}
use Rattle.jsh_tree.specs.declared.expression.Expr.{Expr}
use Rattle.jsh_tree.specs.declared.expression.Expr.TheVariants as tree
use Rattle.jsh_tree.specs.declared.expression.Operation.{Operation}
use Rattle.jsh_tree.specs.declared.expression.PathPart.{PathPart}
use Rattle.jsh_tree.specs.declared.expression.PathPart.TheVariants as part
use Rattle.jsh_tree.specs.declared.expression.Initial.{Initial}
use Rattle.jsh_grammar.specs.Classes as class
use Rattle.jsh_grammar.specs.Productions as table
use Rattle.jsh_parse.specs.Operators.{binary_operator, level_of, unary_operator, operand_level}
use Rattle.jsh_parse.specs.Leaves.{spelling, identifier_of, type_of, names_type, is_primitive, AreBrackets, begins_with_sign, is_step, is_target, ends_in_place, is_open_creation, begins_with_index}
use Rattle.jsh_parse.specs.Leaves as leaves
use Rattle.jsh_parse.specs.Grammar as grammar
use Rattle.jsh_parse.specs.Grammar.{IsExpr, IsConditional, IsLevel, AreOperations, IsUnary, IsPostfix, IsPath, AreParts, IsPrimary, AreSizes, AreArguments, AreListed, AreBraces, AreInitials, IsInitial}
use Rattle.jsh_parse.specs.Statements as statements
use Rattle.jsh_parse.specs.Statements.{IsType}
use Rattle.jsh_parse.proofs.SoundPaths.{impossible}
use Rattle.jsh_parse.proofs.LayerLemmas.{target-Unary, target-Cast}
use Rattle.jsh_parse.proofs.TableSymbols.{none, one, among, in_part, in_deep, Whole, AreWhole, produced, at_last, IsDeeper, deeper, then_deeper, deeper_last, deep_last}
use Rattle.jsh_parse.proofs.TableLayers.{target-Literal, target-This, target-Parenthesized, target-Call, target-SuperCall, target-New, target-NewArray, target-NewArrayOf, target-Postfix, target-Path, index-Index, place-Call, open-sized}
use Rattle.jsh_parse.proofs.TableKinds.{assignment_kind, operator_kind, few_levels, step_kind, prefix_kind, negation_kind, postfix_kind, literal_kind, type_name_kind, primitive_kind, other_type_kind}

-- ---- single tokens, brackets and types

pub one_of : {room : ℕ} {k : TokenKind} {rest : List table.Symbol} {r : List Token} (t : Token) → t.kind ≡ k → AreWhole room rest r →
    AreWhole room (table.a k ∷ rest) (t ∷ r)
one_of t same rest = one t same tt rest

pub type_word : {room : ℕ} {rest : List table.Symbol} {r : List Token} (n : Token) → names_type n.kind ≡ true → AreWhole room rest r →
    AreWhole room (table.any class.is_type_name ∷ rest) (n ∷ r)
type_word n names rest = among n (sym (type_name_kind n.kind) ∙ names) tt rest

pub brackets_derived : {room : ℕ} {b : List Token} {dims : ℕ} → AreBrackets b dims → Whole table.brackets room b
brackets_derived leaves.none = produced table.no_brackets none
brackets_derived (leaves.one_more t u h hu b) = produced table.more_brackets (one_of t h (one_of u hu (at_last (brackets_derived b))))

pub type_derived : {room : ℕ} {b : List Token} {dims : ℕ} (n : Token) → names_type n.kind ≡ true → AreBrackets b dims → Whole table.type_use room (n ∷ b)
type_derived n names b = produced table.of_type (type_word n names (at_last (brackets_derived b)))

pub type_use_derived : {text : List ℕ} {room : ℕ} {ts : List Token} {written : TypeUse} → IsType text ts written → Whole table.type_use room ts
type_use_derived (statements.named n names b) = type_derived n names b

-- ---- operands

prefixed_derived : {room : ℕ} {ts : List Token} (t : Token) (op : UnaryOperator) → unary_operator t.kind ≡ Some op →
    Whole table.unary room ts → (is_step op ≡ true → Whole table.target room ts) → Whole table.unary (suc room) (t ∷ ts)
prefixed_derived {room = room} {ts = ts} t op is inner target = at (is_step op) refl
  where
    at : (b : Bool) → is_step op ≡ b → Whole table.unary (suc room) (t ∷ ts)
    at true e = produced table.of_step (among t (step_kind t.kind op is e) tt (deep_last (target e)))
    at false e = produced table.of_prefix (among t (prefix_kind t.kind op is e) tt (deep_last inner))

cast_derived : {room dims : ℕ} {b r : List Token} (t n u : Token) →
    t.kind ≡ token.LeftParen → names_type n.kind ≡ true → AreBrackets b dims → u.kind ≡ token.RightParen →
    Whole table.unary room r → (is_primitive n.kind ≡ false → Whole table.unsigned room r) →
    Whole table.unary (suc room) (t ∷ n ∷ (b ++ u ∷ r)) × Whole table.unsigned (suc room) (t ∷ n ∷ (b ++ u ∷ r))
cast_derived {room = room} {b = b} {r = r} t n u h names are hu inner unsigned =
    subst (λ (ts : List Token). Whole table.unary (suc room) (t ∷ n ∷ ts) × Whole table.unsigned (suc room) (t ∷ n ∷ ts)) (append_assoc b (u ∷ []) r)
    (at (is_primitive n.kind) refl)
  where
    at : (p : Bool) → is_primitive n.kind ≡ p →
        Whole table.unary (suc room) (t ∷ n ∷ (b ++ u ∷ []) ++ r) × Whole table.unsigned (suc room) (t ∷ n ∷ (b ++ u ∷ []) ++ r)
    at true e =
        let type : Whole table.primitive_cast room (t ∷ n ∷ (b ++ u ∷ []))
        = produced table.of_primitive (one_of t h (among n (sym (primitive_kind n.kind) ∙ e) tt (in_part (brackets_derived are) (one_of u hu none)))) in (
          produced table.of_primitive_cast (in_deep {l = t ∷ n ∷ (b ++ u ∷ [])} type (deep_last inner)),
          produced table.of_unsigned_primitive_cast (in_deep {l = t ∷ n ∷ (b ++ u ∷ [])} type (deep_last inner)),
        )
    at false e =
        let type : Whole table.named_cast room (t ∷ n ∷ (b ++ u ∷ []))
        = produced table.of_named (one_of t h (one_of n (other_type_kind n.kind names e) (in_part (brackets_derived are) (one_of u hu none)))) in (
          produced table.of_named_cast (in_deep {l = t ∷ n ∷ (b ++ u ∷ [])} type (deep_last (unsigned e))),
          produced table.of_unsigned_named_cast (in_deep {l = t ∷ n ∷ (b ++ u ∷ [])} type (deep_last (unsigned e))),
        )

-- ---- levels

level_below : {text : List ℕ} {level room : ℕ} {ts : List Token} {e : Expr} → IsLevel text level room ts e → level ≤ operand_level
level_below (grammar.next_level less d) = omega arith
level_below (grammar.run d ds some) = let deeper = level_below d in omega arith
level_below (grammar.single_operand d) = omega arith

level_with : {level room : ℕ} {l r : List Token} → level < operand_level → Whole (table.level (suc level)) room l → Whole (table.operations level) room r →
    Whole (table.level level) room (l ++ r)
level_with less first rest = produced (table.of_level less) (in_part first (at_last rest))

level_alone : {level room : ℕ} {l : List Token} → level < operand_level → Whole (table.level (suc level)) room l → Whole (table.level level) room l
level_alone {level = level} {room = room} {l = l} less first =
    subst (λ (ts : List Token). Whole (table.level level) room ts) (append-nil l) (level_with less first (produced table.no_operation none))

operation_derived : {level room : ℕ} {l r : List Token} (t : Token) (op : BinaryOperator) → binary_operator t.kind ≡ Some op → level_of op ≡ level →
    Whole (table.level (suc level)) room l → Whole (table.operations level) room r → Whole (table.operations level) room (t ∷ (l ++ r))
operation_derived {level = level} t op is same operand rest =
    let less : level < operand_level = omega (arith, few_levels op) in
    produced (table.of_operation less) (among t (rw (sym same) (operator_kind t.kind op is)) tt (in_part operand (at_last rest)))

-- ---- places

pub index_derived : {room : ℕ} {l : List Token} (t u : Token) → t.kind ≡ token.LeftBracket → Whole table.expression room l → u.kind ≡ token.RightBracket →
    Whole table.index room (t ∷ (l ++ u ∷ []))
index_derived t u h inner hu = produced table.of_index (one_of t h (in_part inner (one_of u hu none)))

pub field_place : {room : ℕ} (t n : Token) → t.kind ≡ token.Dot → n.kind ≡ token.Identifier → Whole table.place room (t ∷ n ∷ [])
field_place t n h hn = produced table.of_field (one_of t h (one_of n hn none))

pub element_place : {room : ℕ} {l : List Token} (t u : Token) → t.kind ≡ token.LeftBracket → Whole table.expression room l → u.kind ≡ token.RightBracket →
    Whole table.place (suc room) (t ∷ (l ++ u ∷ []))
element_place t u h inner hu = produced table.of_element (deep_last (index_derived t u h inner hu))

-- members, and a place behind them
abbrev pub ArePlaced : ℕ → List Token → Type 0
ArePlaced room ts = AreWhole room (table.part table.members ∷ table.part table.place ∷ []) ts

pub place_alone : {room : ℕ} {l : List Token} → Whole table.place room l → ArePlaced room l
place_alone is = in_part {l = []} (produced table.no_member none) (at_last is)

-- one more place in front of members and a place
pub place_before : {room : ℕ} {l r : List Token} → Whole table.place room l → ArePlaced room r → ArePlaced room (l ++ r)
place_before {room = room} {l = l} is (in_part {l = m} {r = s} members rest) =
    subst (λ (ts : List Token). ArePlaced room ts) (append_assoc l m s) (in_part (produced table.of_place (in_part is (at_last members))) rest)

pub call_before : {room : ℕ} {l r : List Token} (t n : Token) → t.kind ≡ token.Dot → n.kind ≡ token.Identifier → IsDeeper table.arguments room l →
    ArePlaced room r →
    ArePlaced room (t ∷ n ∷ (l ++ r))
call_before {room = room} {l = l} t n h hn call (in_part {l = m} {r = s} members rest) =
    subst (λ (ts : List Token). ArePlaced room (t ∷ n ∷ ts)) (append_assoc l m s)
    (in_part {l = t ∷ n ∷ (l ++ m)} (produced table.of_call (one_of t h (one_of n hn (then_deeper call (at_last members))))) rest)

pub no_more : {text : List ℕ} {room : ℕ} {r : List Token} {rest : List PathPart} → AreParts text room r rest → rest ≡ [] → r ≡ []
no_more grammar.no_parts e = refl
no_more (grammar.one_more_field t n h hn ds) e = cc
no_more (grammar.one_more_call t n h hn d ds) e = cc
no_more (grammar.one_more_index t u h d hu ds) e = cc

field_placed : {room : ℕ} {r : List Token} (rest : List PathPart) (p : PathPart) (t n : Token) → t.kind ≡ token.Dot → n.kind ≡ token.Identifier →
    (rest ≡ [] → r ≡ []) → (ends_in_place rest ≡ true → ArePlaced room r) → ends_in_place (p ∷ rest) ≡ true → ArePlaced room (t ∷ n ∷ r)
field_placed {room = room} [] p t n h hn ends more may =
    subst (λ (ts : List Token). ArePlaced room (t ∷ n ∷ ts)) (sym (ends refl)) (place_alone (field_place t n h hn))
field_placed (q ∷ rest) p t n h hn ends more may = place_before {l = t ∷ n ∷ []} (field_place t n h hn) (more may)

call_placed : {room : ℕ} {l r : List Token} (rest : List PathPart) (name : Identifier) (arguments : List Expr) (t n : Token) →
    t.kind ≡ token.Dot → n.kind ≡ token.Identifier → IsDeeper table.arguments room l →
    (ends_in_place rest ≡ true → ArePlaced room r) → ends_in_place (part.Call name arguments ∷ rest) ≡ true → ArePlaced room (t ∷ n ∷ (l ++ r))
call_placed [] name arguments t n h hn call more may = impossible _ (place-Call name arguments) may
call_placed (q ∷ rest) name arguments t n h hn call more may = call_before t n h hn call (more may)

index_placed : {room : ℕ} {l r : List Token} (rest : List PathPart) (p : PathPart) (t u : Token) →
    t.kind ≡ token.LeftBracket → Whole table.expression room l → u.kind ≡ token.RightBracket →
    (rest ≡ [] → r ≡ []) → (ends_in_place rest ≡ true → ArePlaced (suc room) r) → ends_in_place (p ∷ rest) ≡ true → ArePlaced (suc room) (t ∷ (l ++ u ∷ r))
index_placed {room = room} {l = l} [] p t u h inner hu ends more may =
    subst (λ (ts : List Token). ArePlaced (suc room) (t ∷ (l ++ u ∷ ts))) (sym (ends refl)) (place_alone (element_place t u h inner hu))
index_placed {room = room} {l = l} {r = r} (q ∷ rest) p t u h inner hu ends more may =
    subst (λ (ts : List Token). ArePlaced (suc room) (t ∷ ts)) (append_assoc l (u ∷ []) r)
    (place_before {l = t ∷ (l ++ u ∷ [])} (element_place t u h inner hu) (more may))

-- ---- arrays

size_alone : {room : ℕ} {l : List Token} (t u : Token) → t.kind ≡ token.LeftBracket → Whole table.expression room l → u.kind ≡ token.RightBracket →
    Whole table.sizes (suc room) (t ∷ (l ++ u ∷ []))
size_alone t u h inner hu = produced table.last_size (deep_last (index_derived t u h inner hu))

size_before : {room : ℕ} {l r : List Token} (t u : Token) → t.kind ≡ token.LeftBracket → Whole table.expression room l → u.kind ≡ token.RightBracket →
    Whole table.sizes (suc room) r → Whole table.sizes (suc room) (t ∷ (l ++ u ∷ r))
size_before {room = room} {l = l} {r = r} t u h inner hu more =
    subst (λ (ts : List Token). Whole table.sizes (suc room) (t ∷ ts)) (append_assoc l (u ∷ []) r)
    (produced table.more_sizes (in_deep {l = t ∷ (l ++ u ∷ [])} (index_derived t u h inner hu) (at_last more)))

no_more_sizes : {text : List ℕ} {room : ℕ} {r : List Token} {rest : List Expr} → AreSizes text room r rest → rest ≡ [] → r ≡ []
no_more_sizes grammar.no_sizes e = refl
no_more_sizes (grammar.one_more_size t u h d hu ds) e = cc

size_derived : {room : ℕ} {l r : List Token} (rest : List Expr) (t u : Token) →
    t.kind ≡ token.LeftBracket → Whole table.expression room l → u.kind ≡ token.RightBracket →
    (rest ≡ [] → r ≡ []) → (rest ≢ [] → Whole table.sizes (suc room) r) → Whole table.sizes (suc room) (t ∷ (l ++ u ∷ r))
size_derived {room = room} {l = l} [] t u h inner hu ends more =
    subst (λ (ts : List Token). Whole table.sizes (suc room) (t ∷ (l ++ u ∷ ts))) (sym (ends refl)) (size_alone t u h inner hu)
size_derived (e ∷ rest) t u h inner hu ends more = size_before t u h inner hu (more (λ c. cc))

-- a primary whose brackets are closed, or a creation of an array with a size in its last brackets
pub data IsSorted (room : ℕ) (l : List Token) (e : Expr) : Type 0 where
  closed : Whole table.primary room l → IsSorted room l e
  sized : Whole table.open_creation room l → is_open_creation e ≡ true → IsSorted room l e

array_derived : {room dims : ℕ} {l b : List Token} (text : List ℕ) (sizes : List Expr) (t n : Token) → t.kind ≡ token.New → names_type n.kind ≡ true →
    Whole table.sizes room l → AreBrackets b dims → IsSorted room (t ∷ n ∷ (l ++ b)) (tree.NewArray t.span (type_of text n (length sizes + dims)) sizes)
array_derived {room = room} {l = l} text sizes t n h hn are leaves.none =
    sized
    (subst (λ (ts : List Token). Whole table.open_creation room (t ∷ n ∷ ts)) (sym (append-nil l))
    (produced table.of_open_creation (one_of t h (type_word n hn (at_last are)))))
    (open-sized t.span text n sizes)
array_derived text sizes t n h hn are (leaves.one_more v u hv hu b) =
    closed (produced table.of_new_array (one_of t h (type_word n hn (in_part are (one_of v hv (one_of u hu (at_last (brackets_derived b))))))))

filled_derived : {room dims : ℕ} {b l : List Token} (t n : Token) → t.kind ≡ token.New → names_type n.kind ≡ true → AreBrackets b dims → 0 < dims →
    IsDeeper table.braces room l → Whole table.primary room (t ∷ n ∷ (b ++ l))
filled_derived t n h hn leaves.none some are = absurd (omega arith)
filled_derived t n h hn (leaves.one_more v u hv hu b) some are =
    produced table.of_filled_array (one_of t h (type_word n hn (one_of v hv (one_of u hu (in_part (brackets_derived b) (deeper_last are))))))

-- ---- what stands behind the creation of an array

pub not_first : {b : Bool} (creation : Expr) → is_open_creation creation ≡ true → (is_open_creation creation && b) ≡ false → b ≡ false
not_first {b = b} creation is free = subst (λ (x : Bool). (x && b) ≡ false) is free

created_field : {room : ℕ} {l r : List Token} → Whole table.open_creation room l → (t n : Token) → t.kind ≡ token.Dot → n.kind ≡ token.Identifier →
    ArePlaced room r → Whole table.target room (l ++ t ∷ n ∷ r)
created_field creation t n h hn (in_part {l = m} {r = s} members place) =
    produced table.of_created_place
    (in_part creation (in_part {l = t ∷ n ∷ m} (produced table.of_selected_field (one_of t h (one_of n hn (at_last members)))) place))

created_call : {room : ℕ} {l c r : List Token} → Whole table.open_creation room l → (t n : Token) → t.kind ≡ token.Dot → n.kind ≡ token.Identifier →
    IsDeeper table.arguments room c → ArePlaced room r → Whole table.target room (l ++ t ∷ n ∷ (c ++ r))
created_call {room = room} {l = l} {c = c} creation t n h hn call (in_part {l = m} {r = s} members place) =
    subst (λ (ts : List Token). Whole table.target room (l ++ t ∷ n ∷ ts)) (append_assoc c m s)
    (produced table.of_created_place
    (in_part creation (in_part {l = t ∷ n ∷ (c ++ m)} (produced table.of_selected_call (one_of t h (one_of n hn (then_deeper call (at_last members))))) place)))

field_target : {room : ℕ} {l r : List Token} (rest : List PathPart) (p : PathPart) (t n : Token) → Whole table.open_creation room l →
    t.kind ≡ token.Dot → n.kind ≡ token.Identifier → (rest ≡ [] → r ≡ []) → (ends_in_place rest ≡ true → ArePlaced room r) →
    ends_in_place (p ∷ rest) ≡ true → Whole table.target room (l ++ t ∷ n ∷ r)
field_target {room = room} {l = l} [] p t n creation h hn ends more may =
    subst (λ (ts : List Token). Whole table.target room (l ++ t ∷ n ∷ ts)) (sym (ends refl))
    (produced table.of_created_field (in_part creation (one_of t h (one_of n hn none))))
field_target (q ∷ rest) p t n creation h hn ends more may = created_field creation t n h hn (more may)

call_target : {room : ℕ} {l c r : List Token} (rest : List PathPart) (name : Identifier) (arguments : List Expr) (t n : Token) →
    Whole table.open_creation room l →
    t.kind ≡ token.Dot → n.kind ≡ token.Identifier → IsDeeper table.arguments room c → (ends_in_place rest ≡ true → ArePlaced room r) →
    ends_in_place (part.Call name arguments ∷ rest) ≡ true → Whole table.target room (l ++ t ∷ n ∷ (c ++ r))
call_target [] name arguments t n creation h hn call more may = impossible _ (place-Call name arguments) may
call_target (q ∷ rest) name arguments t n creation h hn call more may = created_call creation t n h hn call (more may)

path_alone : {room : ℕ} {l : List Token} {e : Expr} → IsSorted room l e → Whole table.path room l
path_alone {room = room} {l = l} (closed is) =
    subst (λ (ts : List Token). Whole table.path room ts) (append-nil l) (produced table.of_members (in_part is (at_last (produced table.no_member none))))
path_alone {room = room} {l = l} (sized is opens) =
    subst (λ (ts : List Token). Whole table.path room ts) (append-nil l) (produced table.of_created (in_part is (at_last (produced table.no_unindexed none))))

path_with : {room : ℕ} {l r : List Token} {b : Bool} (first : Expr) → IsSorted room l first → Whole table.members room r →
    (b ≡ false → Whole table.selected room r) → (is_open_creation first && b) ≡ false → Whole table.path room (l ++ r)
path_with first (closed is) members selected free = produced table.of_members (in_part is (at_last members))
path_with first (sized is opens) members selected free =
    produced table.of_created (in_part is (at_last (produced table.of_selected (at_last (selected (not_first first opens free))))))

target_with : {room : ℕ} {l r : List Token} {b : Bool} (first : Expr) → IsSorted room l first → ArePlaced room r →
    (Whole table.open_creation room l → b ≡ false → Whole table.target room (l ++ r)) → (is_open_creation first && b) ≡ false →
    Whole table.target room (l ++ r)
target_with first (closed is) placed created free = produced table.of_place_target (in_part is placed)
target_with first (sized is opens) placed created free = created is (not_first first opens free)

index_before : {room : ℕ} {l r : List Token} (t u : Token) → t.kind ≡ token.LeftBracket → Whole table.expression room l → u.kind ≡ token.RightBracket →
    Whole table.members (suc room) r → Whole table.members (suc room) (t ∷ (l ++ u ∷ r))
index_before {room = room} {l = l} {r = r} t u h inner hu more =
    subst (λ (ts : List Token). Whole table.members (suc room) (t ∷ ts)) (append_assoc l (u ∷ []) r)
    (produced table.of_place (in_part {l = t ∷ (l ++ u ∷ [])} (element_place t u h inner hu) (at_last more)))

-- ---- the families of the grammar

mutual
  pub expr_derived : {text : List ℕ} {room : ℕ} {ts : List Token} {e : Expr} → IsExpr text room ts e → Whole table.expression room ts
  expr_derived (grammar.conditional d) = produced table.of_conditional (at_last (conditional_derived d))
  expr_derived (grammar.assignment t op d may is v) =
      produced table.of_assignment (in_part (postfix_target d may) (among t (assignment_kind t.kind op is) tt (deep_last (expr_derived v))))

  pub conditional_derived : {text : List ℕ} {room : ℕ} {ts : List Token} {e : Expr} → IsConditional text room ts e → Whole table.conditional room ts
  conditional_derived (grammar.operators d) = produced table.of_operators (at_last (level_derived d))
  conditional_derived (grammar.choice t u d h dy hu dn) =
      produced table.of_choice (in_part (level_derived d) (one_of t h (in_deep (expr_derived dy) (one_of u hu (deep_last (conditional_derived dn))))))

  pub level_derived : {text : List ℕ} {level room : ℕ} {ts : List Token} {e : Expr} → IsLevel text level room ts e → Whole (table.level level) room ts
  level_derived (grammar.next_level less d) = level_alone less (level_derived d)
  level_derived (grammar.run d ds some) = level_with (level_below d) (level_derived d) (operations_derived ds)
  level_derived (grammar.single_operand d) = produced table.of_operand (at_last (unary_derived d))

  pub operations_derived : {text : List ℕ} {level room : ℕ} {ts : List Token} {os : List Operation} → AreOperations text level room ts os →
      Whole (table.operations level) room ts
  operations_derived grammar.no_operations = produced table.no_operation none
  operations_derived (grammar.one_more_operand t op is same d ds) = operation_derived t op is same (level_derived d) (operations_derived ds)
  operations_derived (grammar.one_more_type {b = b} t u h hu are ds) =
      produced table.of_instanceof (one_of t h (in_part {l = u ∷ b} (type_derived u hu are) (at_last (operations_derived ds))))

  pub unary_derived : {text : List ℕ} {room : ℕ} {ts : List Token} {e : Expr} → IsUnary text room ts e → Whole table.unary room ts
  unary_derived (grammar.prefixed t op is d may) = prefixed_derived t op is (unary_derived d) (λ s. unary_target d (may s))
  unary_derived (grammar.cast t n u h hn b hu d sign) = (cast_derived t n u h hn b hu (unary_derived d) (λ p. unsigned_derived d (sign p))).0
  unary_derived (grammar.postfix d) = produced table.of_postfix (at_last (postfix_derived d))

  pub unsigned_derived : {text : List ℕ} {room : ℕ} {ts : List Token} {e : Expr} → IsUnary text room ts e → begins_with_sign ts ≡ false →
      Whole table.unsigned room ts
  unsigned_derived (grammar.prefixed {ts = ts} t op is d may) free =
      produced table.of_negation (among t (negation_kind t ts op is free) tt (deep_last (unary_derived d)))
  unsigned_derived (grammar.cast t n u h hn b hu d sign) free = (cast_derived t n u h hn b hu (unary_derived d) (λ p. unsigned_derived d (sign p))).1
  unsigned_derived (grammar.postfix d) free = produced table.of_unsigned_postfix (at_last (postfix_derived d))

  -- an operand that may be assigned to
  pub unary_target : {text : List ℕ} {room : ℕ} {ts : List Token} {e : Expr} → IsUnary text room ts e → is_target e ≡ true → Whole table.target room ts
  unary_target (grammar.prefixed {inner = inner} t op is d may) target = impossible _ (target-Unary t.span op inner) target
  unary_target {text = text} (grammar.cast {dims = dims} {inner = inner} t n u h hn b hu d sign) target =
      impossible _ (target-Cast t.span (type_of text n dims) inner) target
  unary_target (grammar.postfix d) target = postfix_target d target

  pub postfix_derived : {text : List ℕ} {room : ℕ} {ts : List Token} {e : Expr} → IsPostfix text room ts e → Whole table.postfix room ts
  postfix_derived (grammar.unstepped d) = produced table.of_path (at_last (path_derived d))
  postfix_derived (grammar.stepped t op d may is) = produced table.of_stepped (in_part (path_target d may) (among t (postfix_kind t.kind op is) tt none))

  pub postfix_target : {text : List ℕ} {room : ℕ} {ts : List Token} {e : Expr} → IsPostfix text room ts e → is_target e ≡ true → Whole table.target room ts
  postfix_target (grammar.unstepped d) target = path_target d target
  postfix_target (grammar.stepped {inner = inner} t op d may is) target = impossible _ (target-Postfix inner op) target

  pub path_derived : {text : List ℕ} {room : ℕ} {ts : List Token} {e : Expr} → IsPath text room ts e → Whole table.path room ts
  path_derived (grammar.alone d) = path_alone (primary_derived d)
  path_derived (grammar.with_parts {first = first} d ds some free) =
      path_with first (primary_derived d) (parts_derived ds) (λ other. parts_selected ds some other) free

  -- a path that may be assigned to
  pub path_target : {text : List ℕ} {room : ℕ} {ts : List Token} {e : Expr} → IsPath text room ts e → is_target e ≡ true → Whole table.target room ts
  path_target (grammar.alone d) target = primary_target d target
  path_target (grammar.with_parts {first = first} {rest = rest} d ds some free) target =
      target_with first (primary_derived d) (parts_placed ds (sym (target-Path first rest) ∙ target))
      (λ creation other. parts_target creation ds some other (sym (target-Path first rest) ∙ target)) free

  pub parts_derived : {text : List ℕ} {room : ℕ} {ts : List Token} {ps : List PathPart} → AreParts text room ts ps → Whole table.members room ts
  parts_derived grammar.no_parts = produced table.no_member none
  parts_derived (grammar.one_more_field t n h hn ds) =
      produced table.of_place (in_part {l = t ∷ n ∷ []} (field_place t n h hn) (at_last (parts_derived ds)))
  parts_derived (grammar.one_more_call t n h hn d ds) =
      produced table.of_call (one_of t h (one_of n hn (then_deeper (arguments_derived d) (at_last (parts_derived ds)))))
  parts_derived (grammar.one_more_index t u h d hu ds) = index_before t u h (expr_derived d) hu (parts_derived ds)

  -- parts that end in a place
  pub parts_placed : {text : List ℕ} {room : ℕ} {ts : List Token} {ps : List PathPart} → AreParts text room ts ps → ends_in_place ps ≡ true →
      ArePlaced room ts
  parts_placed grammar.no_parts may = cc
  parts_placed {text = text} (grammar.one_more_field {rest = rest} t n h hn ds) may =
      field_placed rest (part.Field (identifier_of text n)) t n h hn (no_more ds) (λ m. parts_placed ds m) may
  parts_placed {text = text} (grammar.one_more_call {arguments = arguments} {rest = rest} t n h hn d ds) may =
      call_placed rest (identifier_of text n) arguments t n h hn (arguments_derived d) (λ m. parts_placed ds m) may
  parts_placed (grammar.one_more_index {inner = inner} {rest = rest} t u h d hu ds) may =
      index_placed rest (part.Index inner) t u h (expr_derived d) hu (no_more ds) (λ m. parts_placed ds m) may

  -- parts that begin with no index
  parts_selected : {text : List ℕ} {room : ℕ} {ts : List Token} {ps : List PathPart} → AreParts text room ts ps → ps ≢ [] → begins_with_index ps ≡ false →
      Whole table.selected room ts
  parts_selected grammar.no_parts some other = absurd (some refl)
  parts_selected (grammar.one_more_field t n h hn ds) some other = produced table.of_selected_field (one_of t h (one_of n hn (at_last (parts_derived ds))))
  parts_selected (grammar.one_more_call t n h hn d ds) some other =
      produced table.of_selected_call (one_of t h (one_of n hn (then_deeper (arguments_derived d) (at_last (parts_derived ds)))))
  parts_selected (grammar.one_more_index {inner = inner} {rest = rest} t u h d hu ds) some other = let is = index-Index inner rest in cc

  -- such parts behind a new array, which end in a place
  parts_target : {text : List ℕ} {room : ℕ} {l ts : List Token} {ps : List PathPart} → Whole table.open_creation room l → AreParts text room ts ps →
      ps ≢ [] →
      begins_with_index ps ≡ false → ends_in_place ps ≡ true → Whole table.target room (l ++ ts)
  parts_target creation grammar.no_parts some other may = absurd (some refl)
  parts_target {text = text} creation (grammar.one_more_field {rest = rest} t n h hn ds) some other may =
      field_target rest (part.Field (identifier_of text n)) t n creation h hn (no_more ds) (λ m. parts_placed ds m) may
  parts_target {text = text} creation (grammar.one_more_call {arguments = arguments} {rest = rest} t n h hn d ds) some other may =
      call_target rest (identifier_of text n) arguments t n creation h hn (arguments_derived d) (λ m. parts_placed ds m) may
  parts_target creation (grammar.one_more_index {inner = inner} {rest = rest} t u h d hu ds) some other may = let is = index-Index inner rest in cc

  pub primary_derived : {text : List ℕ} {room : ℕ} {ts : List Token} {e : Expr} → IsPrimary text room ts e → IsSorted room ts e
  primary_derived {text = text} (grammar.literal t value is) =
      closed (produced table.of_literal (among t (literal_kind t.kind (spelling text t) value is) tt none))
  primary_derived (grammar.this t h) = closed (produced table.of_this (one_of t h none))
  primary_derived (grammar.parenthesized t u h d hu) =
      closed (produced table.of_parenthesized (deep_last (produced table.in_parentheses (one_of t h (in_part (expr_derived d) (one_of u hu none))))))
  primary_derived (grammar.name n h) = closed (produced table.of_name (one_of n h none))
  primary_derived (grammar.call n h d) = closed (produced table.of_simple_call (one_of n h (deeper_last (arguments_derived d))))
  primary_derived (grammar.super_call t v n h hv hn d) =
      closed (produced table.of_super_call (one_of t h (one_of v hv (one_of n hn (deeper_last (arguments_derived d))))))
  primary_derived (grammar.new_object t n h hn d) = closed (produced table.of_new_object (one_of t h (one_of n hn (deeper_last (arguments_derived d)))))
  primary_derived {text = text} (grammar.new_array {sizes = sizes} t n h hn d some b) = array_derived text sizes t n h hn (sizes_derived d some) b
  primary_derived (grammar.new_array_of t n u h hn b few d) = closed (filled_derived t n h hn b few (braces_derived d))

  primary_target : {text : List ℕ} {room : ℕ} {ts : List Token} {e : Expr} → IsPrimary text room ts e → is_target e ≡ true → Whole table.target room ts
  primary_target (grammar.literal t value is) target = impossible _ (target-Literal t.span value) target
  primary_target (grammar.this t h) target = impossible _ (target-This t.span) target
  primary_target (grammar.parenthesized {inner = inner} t u h d hu) target = impossible _ (target-Parenthesized t.span inner) target
  primary_target (grammar.name n h) target = produced table.of_name_target (one_of n h none)
  primary_target {text = text} (grammar.call {arguments = arguments} n h d) target = impossible _ (target-Call (identifier_of text n) arguments) target
  primary_target {text = text} (grammar.super_call {arguments = arguments} t v n h hv hn d) target =
      impossible _ (target-SuperCall t.span (identifier_of text n) arguments) target
  primary_target {text = text} (grammar.new_object {arguments = arguments} t n h hn d) target =
      impossible _ (target-New t.span (identifier_of text n) arguments) target
  primary_target {text = text} (grammar.new_array {dims = dims} {sizes = sizes} t n h hn d some b) target =
      impossible _ (target-NewArray t.span (type_of text n (length sizes + dims)) sizes) target
  primary_target {text = text} (grammar.new_array_of {dims = dims} {values = values} t n u h hn b few d) target =
      impossible _ (target-NewArrayOf t.span (type_of text n dims) u.span values) target

  pub sizes_derived : {text : List ℕ} {room : ℕ} {ts : List Token} {es : List Expr} → AreSizes text room ts es → es ≢ [] → Whole table.sizes room ts
  sizes_derived grammar.no_sizes some = absurd (some refl)
  sizes_derived (grammar.one_more_size {rest = rest} t u h d hu ds) some =
      size_derived rest t u h (expr_derived d) hu (no_more_sizes ds) (λ s. sizes_derived ds s)

  pub arguments_derived : {text : List ℕ} {room : ℕ} {ts : List Token} {es : List Expr} → AreArguments text room ts es → IsDeeper table.arguments room ts
  arguments_derived (grammar.no_arguments t u h hu) = deeper (produced table.no_arguments (one_of t h (one_of u hu none)))
  arguments_derived (grammar.some_arguments t u h d hu) =
      deeper (produced table.some_arguments (one_of t h (in_part (listed_derived d) (one_of u hu none))))

  pub listed_derived : {text : List ℕ} {room : ℕ} {ts : List Token} {es : List Expr} → AreListed text room ts es → Whole table.listed room ts
  listed_derived (grammar.last_listed d) = produced table.last_argument (at_last (expr_derived d))
  listed_derived (grammar.one_more_listed t d h ds) = produced table.more_arguments (in_part (expr_derived d) (one_of t h (at_last (listed_derived ds))))

  pub braces_derived : {text : List ℕ} {room : ℕ} {ts : List Token} {vs : List Initial} → AreBraces text room ts vs → IsDeeper table.braces room ts
  braces_derived (grammar.no_values t u h hu) = deeper (produced table.no_values (one_of t h (one_of u hu none)))
  braces_derived (grammar.some_values t u h d hu) = deeper (produced table.some_values (one_of t h (in_part (initials_derived d) (one_of u hu none))))

  pub initials_derived : {text : List ℕ} {room : ℕ} {ts : List Token} {vs : List Initial} → AreInitials text room ts vs → Whole table.initials room ts
  initials_derived (grammar.last_initial d) = produced table.last_value (at_last (initial_derived d))
  initials_derived (grammar.last_with_comma t d h) = produced table.last_value_with_comma (in_part (initial_derived d) (one_of t h none))
  initials_derived (grammar.one_more_initial t d h ds) =
      produced table.more_values (in_part (initial_derived d) (one_of t h (at_last (initials_derived ds))))

  pub initial_derived : {text : List ℕ} {room : ℕ} {ts : List Token} {v : Initial} → IsInitial text room ts v → Whole table.initial room ts
  initial_derived (grammar.initial_value d) = produced table.of_value (at_last (expr_derived d))
  initial_derived (grammar.initial_array t d) = produced table.of_values (deeper_last (braces_derived d))
