-- What the table derives for expressions, the grammar of expressions spells.
use Rattle.std.proofs.Common.{◌≡◌, ◌≢◌, ℕ, zero, suc, ◌+◌, ◌<◌, Bool, true, false, ◌&&◌, List, [], ◌∷◌, ◌++◌, length, refl, sym, ap, ◌∙◌, subst, arith, append_assoc, append-nil}
use Rattle.jsh_tree.specs.declared.token.Token.{Token}
use Rattle.jsh_tree.specs.declared.token.TokenKind.{TokenKind}
use Rattle.jsh_tree.specs.declared.token.TokenKind.TheVariants as token
use Rattle.jsh_tree.specs.declared.expression.TypeUse.{TypeUse}
use Rattle.jsh_tree.specs.declared.expression.Expr.{Expr}
use Rattle.jsh_tree.specs.declared.expression.Expr.TheVariants as tree
use Rattle.jsh_tree.specs.declared.expression.Operation.{Operation}
use Rattle.jsh_tree.specs.declared.expression.Operation.TheVariants as operation
use Rattle.jsh_tree.specs.declared.expression.PathPart.{PathPart}
use Rattle.jsh_tree.specs.declared.expression.PathPart.TheVariants as part
use Rattle.jsh_tree.specs.declared.expression.Initial.{Initial}
use Rattle.jsh_tree.specs.declared.expression.Initial.TheVariants as initial
use Rattle.jsh_grammar.specs.Classes as class
use Rattle.jsh_grammar.specs.Productions.{Part, Symbol, IsProduction}
use Rattle.jsh_grammar.specs.Productions as table
use Rattle.jsh_grammar.specs.Fronts.{IsWhole}
use Rattle.jsh_parse.specs.Operators.{operand_level}
use Rattle.jsh_parse.specs.Leaves.{literal_of, value_of_kind, spelling, identifier_of, type_of, names_type, is_primitive, AreBrackets, begins_with_sign, is_target, ends_in_place, is_open_creation, begins_with_index}
use Rattle.jsh_parse.specs.Leaves as leaves
use Rattle.jsh_parse.specs.Grammar as grammar
use Rattle.jsh_parse.specs.Grammar.{IsExpr, IsConditional, IsLevel, AreOperations, IsUnary, IsPostfix, IsPath, AreParts, IsPrimary, AreSizes, AreArguments, AreListed, AreBraces, AreInitials, IsInitial}
use Rattle.jsh_parse.specs.Statements.{IsType, named}
use Rattle.jsh_recognizer.specs.Recognizing.{kinds}
use Rattle.jsh_parse.proofs.LayerLemmas.{open-Literal, open-This, open-Parenthesized, open-Name, open-Call, open-SuperCall, open-New, open-NewArrayOf, index-Field, index-Call}
use Rattle.jsh_parse.proofs.TableSymbols.{AreSymbols, none, one, among, in_part, in_deep, AllKnown, Whole, by_whole}
use Rattle.jsh_parse.proofs.TableValues.{HasValue}
use Rattle.jsh_parse.proofs.TableLayers.{target-Name, target-Path, place-Field, place-Index, open-unsized}
use Rattle.jsh_parse.proofs.TableKinds.{assignment_of, operator_of, step_of, prefix_of, negation_prefix, negation_no_sign, postfix_of, type_name_kind, primitive_name, literal_no_sign}

-- ---- what the tokens of each part spell

-- the creation of an array with a size in its last brackets
pub data IsCreation (text : List ℕ) : ℕ → List Token → Type 0 where
  creation : {room : ℕ} {s : List Token} {sizes : List Expr} (t n : Token) →
      t.kind ≡ token.New → names_type n.kind ≡ true → AreSizes text room s sizes → sizes ≢ [] → IsCreation text room (t ∷ n ∷ s)

-- an expression between two tokens of these kinds
pub data IsEnclosed (opens closes : TokenKind) (text : List ℕ) : ℕ → List Token → Type 0 where
  enclosed : {room : ℕ} {l : List Token} {inner : Expr} (t u : Token) →
      t.kind ≡ opens → IsExpr text room l inner → u.kind ≡ closes → IsEnclosed opens closes text room (t ∷ (l ++ u ∷ []))

-- the type of a cast in its parentheses: a primitive one, or a named one
pub data IsCastHead (primitive : Bool) : List Token → Type 0 where
  cast_head : {dims : ℕ} {b : List Token} (t n u : Token) →
      t.kind ≡ token.LeftParen → names_type n.kind ≡ true → is_primitive n.kind ≡ primitive → AreBrackets b dims → u.kind ≡ token.RightParen →
      IsCastHead primitive (t ∷ n ∷ (b ++ u ∷ []))

-- the trees that the tokens of a part spell, of the parts of expressions
abbrev pub HasTree : List ℕ → Part → ℕ → List Token → Type 0
HasTree text table.expression room ts = (e : Expr) × IsExpr text room ts e
HasTree text table.conditional room ts = (e : Expr) × IsConditional text room ts e
HasTree text (table.level n) room ts = (e : Expr) × IsLevel text n room ts e
HasTree text (table.operations n) room ts = (os : List Operation) × AreOperations text n room ts os
HasTree text table.unary room ts = (e : Expr) × IsUnary text room ts e
HasTree text table.primitive_cast room ts = IsCastHead true ts
HasTree text table.named_cast room ts = IsCastHead false ts
HasTree text table.unsigned room ts = (e : Expr) × IsUnary text room ts e × (begins_with_sign ts ≡ false)
HasTree text table.postfix room ts = (e : Expr) × IsPostfix text room ts e
HasTree text table.path room ts = (e : Expr) × IsPath text room ts e
HasTree text table.target room ts = (e : Expr) × IsPath text room ts e × (is_target e ≡ true)
HasTree text table.members room ts = (ps : List PathPart) × AreParts text room ts ps
HasTree text table.place room ts = (p : PathPart) × AreParts text room ts (p ∷ []) × (ends_in_place (p ∷ []) ≡ true)
HasTree text table.primary room ts = (e : Expr) × IsPrimary text room ts e × (is_open_creation e ≡ false)
HasTree text table.open_creation room ts = IsCreation text room ts
HasTree text table.selected room ts = (ps : List PathPart) × AreParts text room ts ps × (ps ≢ []) × (begins_with_index ps ≡ false)
HasTree text table.unindexed room ts = (ps : List PathPart) × AreParts text room ts ps × (begins_with_index ps ≡ false)
HasTree text table.parenthesized room ts = IsEnclosed token.LeftParen token.RightParen text room ts
HasTree text table.arguments room ts = (es : List Expr) × AreArguments text (suc room) ts es
HasTree text table.listed room ts = (es : List Expr) × AreListed text room ts es
HasTree text table.index room ts = IsEnclosed token.LeftBracket token.RightBracket text room ts
HasTree text table.sizes room ts = (es : List Expr) × AreSizes text room ts es × (es ≢ [])
HasTree text table.brackets room ts = (dims : ℕ) × AreBrackets ts dims
HasTree text table.braces room ts = (vs : List Initial) × AreBraces text (suc room) ts vs
HasTree text table.initials room ts = (vs : List Initial) × AreInitials text room ts vs
HasTree text table.initial room ts = (v : Initial) × IsInitial text room ts v
HasTree text table.type_use room ts = (written : TypeUse) × IsType text ts written
HasTree text _ room ts = Unit {0}

-- tokens that stand for symbols, part by part with trees
abbrev pub Have : List ℕ → ℕ → List Symbol → List Token → Type 0
Have text room p ts = AreSymbols (HasValue text) (HasTree text) room p ts

-- ---- expressions and levels of operators

conditional_tree : (text : List ℕ) {room : ℕ} {ts : List Token} → Have text room (table.part table.conditional ∷ []) ts →
    HasTree text table.expression room ts
conditional_tree text (in_part (e, d) none) = (e, rw append-nil (grammar.conditional d))

assignment_tree : (text : List ℕ) {room : ℕ} {ts : List Token} →
    Have text room (table.part table.target ∷ table.any class.is_assignment ∷ table.deep table.expression ∷ []) ts → HasTree text table.expression room ts
assignment_tree text (in_part (e, d, may) (among t is known (in_deep (v, g) none))) =
    let op = assignment_of t.kind is in
    (tree.Assign e op.0 v, rw append-nil (grammar.assignment t op.0 (grammar.unstepped d) may op.1 g))

operators_tree : (text : List ℕ) {room : ℕ} {ts : List Token} → Have text room (table.part (table.level 0) ∷ []) ts →
    HasTree text table.conditional room ts
operators_tree text (in_part (e, d) none) = (e, rw append-nil (grammar.operators d))

choice_tree : (text : List ℕ) {room : ℕ} {ts : List Token} →
    Have text room
    (table.part (table.level 0) ∷ table.a token.Question ∷ table.deep table.expression ∷ table.a token.Colon ∷ table.deep table.conditional ∷ []) ts →
    HasTree text table.conditional room ts
choice_tree text (in_part (c, d) (one t h known (in_deep (l, dl) (one u hu also (in_deep (r, dr) none))))) =
    (tree.Conditional c l r, rw append-nil (grammar.choice t u d h dl hu dr))

no_operations_left : {text : List ℕ} {level room : ℕ} {r : List Token} {os : List Operation} → AreOperations text level room r os → os ≡ [] → r ≡ []
no_operations_left grammar.no_operations e = refl
no_operations_left (grammar.one_more_operand t op is same d ds) e = cc
no_operations_left (grammar.one_more_type t u h hu b ds) e = cc

level_joined : (text : List ℕ) {level room : ℕ} {l r : List Token} {first : Expr} → level < operand_level → IsLevel text (suc level) room l first →
    (os : List Operation) → AreOperations text level room r os → (e : Expr) × IsLevel text level room (l ++ r) e
level_joined text {level = level} {room = room} {l = l} {first = first} less d [] ds =
    (first, rw (no_operations_left ds refl, append-nil l) (grammar.next_level less d))
level_joined text {first = first} less d (o ∷ os) ds = (tree.Binary first (o ∷ os), grammar.run d ds (λ c. cc))

level_tree : (text : List ℕ) {level room : ℕ} {ts : List Token} → level < operand_level →
    Have text room (table.part (table.level (suc level)) ∷ table.part (table.operations level) ∷ []) ts → HasTree text (table.level level) room ts
level_tree text less (in_part (e, d) (in_part {l = r} (os, ds) none)) = rw (append-nil r) (level_joined text less d os ds)

operand_tree : (text : List ℕ) {room : ℕ} {ts : List Token} → Have text room (table.part table.unary ∷ []) ts →
    HasTree text (table.level operand_level) room ts
operand_tree text (in_part (e, d) none) = (e, rw append-nil (grammar.single_operand d))

no_operation_tree : (text : List ℕ) {level room : ℕ} {ts : List Token} → Have text room [] ts → HasTree text (table.operations level) room ts
no_operation_tree text none = ([], grammar.no_operations)

operation_tree : (text : List ℕ) {level room : ℕ} {ts : List Token} →
    Have text room (table.any (class.is_operator level) ∷ table.part (table.level (suc level)) ∷ table.part (table.operations level) ∷ []) ts →
    HasTree text (table.operations level) room ts
operation_tree text {level = level} (among t is known (in_part (e, d) (in_part (os, ds) none))) =
    let op = operator_of t.kind level is in
    (operation.Operator op.0 e ∷ os, rw append-nil (grammar.one_more_operand t op.0 op.1 op.2 d ds))

instanceof_tree : (text : List ℕ) {room : ℕ} {ts : List Token} →
    Have text room (table.a token.Instanceof ∷ table.part table.type_use ∷ table.part (table.operations table.comparisons) ∷ []) ts →
    HasTree text (table.operations table.comparisons) room ts
instanceof_tree text (one t h known (in_part (written, named {dims = dims} u hu b) (in_part (os, ds) none))) =
    (operation.InstanceOf (type_of text u dims) ∷ os, rw append-nil (grammar.one_more_type t u h hu b ds))

-- ---- operands

prefix_tree : (text : List ℕ) {room : ℕ} {ts : List Token} →
    Have text room (table.any class.is_prefix ∷ table.deep table.unary ∷ []) ts → HasTree text table.unary room ts
prefix_tree text (among t is known (in_deep (e, d) none)) =
    let op = prefix_of t.kind is in
    let still = op.2 in
    (tree.Unary t.span op.0 e, rw append-nil (grammar.prefixed t op.0 op.1 d (λ s. cc)))

step_tree : (text : List ℕ) {room : ℕ} {ts : List Token} →
    Have text room (table.any class.is_step ∷ table.deep table.target ∷ []) ts → HasTree text table.unary room ts
step_tree text (among t is known (in_deep (e, d, may) none)) =
    let op = step_of t.kind is in
    (tree.Unary t.span op.0 e, rw append-nil (grammar.prefixed t op.0 op.1 (grammar.postfix (grammar.unstepped d)) (λ s. may)))

cast_tree : (text : List ℕ) {p : Bool} {room : ℕ} {l r : List Token} (e : Expr) → IsCastHead p l → IsUnary text room r e → (p ≡ false →
    begins_with_sign r ≡ false) →
    (c : Expr) × IsUnary text (suc room) (l ++ r) c × (begins_with_sign (l ++ r) ≡ false)
cast_tree text {room = room} {r = r} e (cast_head {dims = dims} {b = b} t n u h hn prim are hu) d sign = (
  tree.Cast t.span (type_of text n dims) e,
  subst (λ (ts : List Token). IsUnary text (suc room) (t ∷ n ∷ ts) (tree.Cast t.span (type_of text n dims) e)) (sym (append_assoc b (u ∷ []) r))
      (grammar.cast t n u h hn are hu d (λ f. sign (sym prim ∙ f))),
  rw h refl,
)

primitive_cast_tree : (text : List ℕ) {room : ℕ} {ts : List Token} →
    Have text room (table.deep table.primitive_cast ∷ table.deep table.unary ∷ []) ts → HasTree text table.unsigned room ts
primitive_cast_tree text (in_deep head (in_deep {l = r} (e, d) none)) = rw (append-nil r) (cast_tree text e head d (λ f. cc))

named_cast_tree : (text : List ℕ) {room : ℕ} {ts : List Token} →
    Have text room (table.deep table.named_cast ∷ table.deep table.unsigned ∷ []) ts → HasTree text table.unsigned room ts
named_cast_tree text (in_deep head (in_deep {l = r} (e, d, sign) none)) = rw (append-nil r) (cast_tree text e head d (λ f. sign))

signed : (text : List ℕ) {room : ℕ} {ts : List Token} → HasTree text table.unsigned room ts → HasTree text table.unary room ts
signed text d = (d.0, d.1)

postfix_tree : (text : List ℕ) {room : ℕ} {ts : List Token} → Have text room (table.part table.postfix ∷ []) ts → HasTree text table.unary room ts
postfix_tree text (in_part (e, d) none) = (e, rw append-nil (grammar.postfix d))

primitive_head : (text : List ℕ) {room : ℕ} {ts : List Token} →
    Have text room (table.a token.LeftParen ∷ table.any class.is_primitive ∷ table.part table.brackets ∷ table.a token.RightParen ∷ []) ts →
    IsCastHead true ts
primitive_head text (one t h known (among n is also (in_part (dims, b) (one u hu more none)))) =
    let name = primitive_name n.kind is in
    cast_head t n u h name.0 name.1 b hu

named_head : (text : List ℕ) {room : ℕ} {ts : List Token} →
    Have text room (table.a token.LeftParen ∷ table.a token.Identifier ∷ table.part table.brackets ∷ table.a token.RightParen ∷ []) ts →
    IsCastHead false ts
named_head text (one t h known (one n hn also (in_part (dims, b) (one u hu more none)))) = cast_head t n u h (rw hn refl) (rw hn refl) b hu

negation_tree : (text : List ℕ) {room : ℕ} {ts : List Token} →
    Have text room (table.any class.is_negation ∷ table.deep table.unary ∷ []) ts → HasTree text table.unsigned room ts
negation_tree text (among t is known (in_deep {l = r} (e, d) none)) =
    let op = prefix_of t.kind (negation_prefix t.kind is) in
    let still = op.2 in
    (tree.Unary t.span op.0 e, rw append-nil (grammar.prefixed t op.0 op.1 d (λ s. cc)), negation_no_sign t (r ++ []) is)

pub primary_no_sign : {text : List ℕ} {room : ℕ} {l : List Token} {e : Expr} → IsPrimary text room l e → (r : List Token) →
    begins_with_sign (l ++ r) ≡ false
primary_no_sign {text = text} (grammar.literal t value is) r = literal_no_sign t r (spelling text t) value is
primary_no_sign (grammar.this t h) r = rw h refl
primary_no_sign (grammar.parenthesized t u h d hu) r = rw h refl
primary_no_sign (grammar.name n h) r = rw h refl
primary_no_sign (grammar.call n h d) r = rw h refl
primary_no_sign (grammar.super_call t v n h hv hn d) r = rw h refl
primary_no_sign (grammar.new_object t n h hn d) r = rw h refl
primary_no_sign (grammar.new_array t n h hn d some b) r = rw h refl
primary_no_sign (grammar.new_array_of t n u h hn b few d) r = rw h refl

pub path_no_sign : {text : List ℕ} {room : ℕ} {l : List Token} {e : Expr} → IsPath text room l e → (r : List Token) → begins_with_sign (l ++ r) ≡ false
path_no_sign (grammar.alone d) r = primary_no_sign d r
path_no_sign (grammar.with_parts {l = l} {r = m} d ds some free) r = rw (append_assoc l m r) (primary_no_sign d (m ++ r))

postfix_no_sign : {text : List ℕ} {room : ℕ} {l : List Token} {e : Expr} → IsPostfix text room l e → begins_with_sign l ≡ false
postfix_no_sign (grammar.unstepped {ts = ts} d) = ap begins_with_sign (sym (append-nil ts)) ∙ path_no_sign d []
postfix_no_sign (grammar.stepped t op d may is) = path_no_sign d (t ∷ [])

unsigned_postfix_tree : (text : List ℕ) {room : ℕ} {ts : List Token} → Have text room (table.part table.postfix ∷ []) ts →
    HasTree text table.unsigned room ts
unsigned_postfix_tree text (in_part {l = l} (e, d) none) = rw (append-nil l) (e, grammar.postfix d, postfix_no_sign d)

-- ---- paths

path_tree : (text : List ℕ) {room : ℕ} {ts : List Token} → Have text room (table.part table.path ∷ []) ts → HasTree text table.postfix room ts
path_tree text (in_part (e, d) none) = (e, rw append-nil (grammar.unstepped d))

stepped_tree : (text : List ℕ) {room : ℕ} {ts : List Token} →
    Have text room (table.part table.target ∷ table.any class.is_step ∷ []) ts → HasTree text table.postfix room ts
stepped_tree text (in_part (e, d, may) (among t is known none)) =
    let op = postfix_of t.kind is in
    (tree.Postfix e op.0, grammar.stepped t op.0 d may op.1)

no_parts_left : {text : List ℕ} {room : ℕ} {r : List Token} {ps : List PathPart} → AreParts text room r ps → ps ≡ [] → r ≡ []
no_parts_left grammar.no_parts e = refl
no_parts_left (grammar.one_more_field t n h hn ds) e = cc
no_parts_left (grammar.one_more_call t n h hn d ds) e = cc
no_parts_left (grammar.one_more_index t u h d hu ds) e = cc

parts_joined : (text : List ℕ) {room : ℕ} {l r : List Token} {first : Expr} → IsPrimary text room l first →
    (ps : List PathPart) → AreParts text room r ps → (is_open_creation first && begins_with_index ps) ≡ false → (e : Expr) × IsPath text room (l ++ r) e
parts_joined text {l = l} {first = first} d [] ds free = (first, rw (no_parts_left ds refl, append-nil l) (grammar.alone d))
parts_joined text {first = first} d (p ∷ ps) ds free = (tree.Path first (p ∷ ps), grammar.with_parts d ds (λ c. cc) free)

pub not_open : (first : Expr) (b : Bool) → is_open_creation first ≡ false → (is_open_creation first && b) ≡ false
not_open first b is = rw is refl

pub both_not : (a : Bool) {b : Bool} → b ≡ false → (a && b) ≡ false
both_not true is = is
both_not false is = refl

members_tree : (text : List ℕ) {room : ℕ} {ts : List Token} →
    Have text room (table.part table.primary ∷ table.part table.members ∷ []) ts → HasTree text table.path room ts
members_tree text (in_part (e, d, free) (in_part {l = r} (ps, ds) none)) = rw (append-nil r) (parts_joined text d ps ds (not_open e _ free))

-- the array that is created
pub created : (text : List ℕ) {room : ℕ} {l : List Token} → IsCreation text room l → (e : Expr) × IsPrimary text room l e
created text {room = room} (creation {s = s} {sizes = sizes} t n h hn are some) =
    let e : Expr = tree.NewArray t.span (type_of text n (length sizes + 0)) sizes in
    (e, subst (λ (ts : List Token). IsPrimary text room (t ∷ n ∷ ts) e) (append-nil s) (grammar.new_array t n h hn are some leaves.none))

created_tree : (text : List ℕ) {room : ℕ} {ts : List Token} →
    Have text room (table.part table.open_creation ∷ table.part table.unindexed ∷ []) ts → HasTree text table.path room ts
created_tree text (in_part is (in_part {l = r} (ps, ds, free) none)) =
    let array = created text is in
    rw (append-nil r) (parts_joined text array.1 ps ds (both_not (is_open_creation array.0) free))

pub parts_append : {text : List ℕ} {room : ℕ} {l r : List Token} {ps qs : List PathPart} → AreParts text room l ps → AreParts text room r qs →
    AreParts text room (l ++ r) (ps ++ qs)
parts_append grammar.no_parts es = es
parts_append (grammar.one_more_field t n h hn ds) es = grammar.one_more_field t n h hn (parts_append ds es)
parts_append {r = r} (grammar.one_more_call {l = l} {r = m} t n h hn d ds) es =
    rw (append_assoc l m r) (grammar.one_more_call t n h hn d (parts_append ds es))
parts_append {r = r} (grammar.one_more_index {l = l} {r = m} t u h d hu ds) es =
    rw (append_assoc l (u ∷ m) r) (grammar.one_more_index t u h d hu (parts_append ds es))

no_member_tree : (text : List ℕ) {room : ℕ} {ts : List Token} → Have text room [] ts → HasTree text table.members room ts
no_member_tree text none = ([], grammar.no_parts)

place_tree : (text : List ℕ) {room : ℕ} {ts : List Token} →
    Have text room (table.part table.place ∷ table.part table.members ∷ []) ts → HasTree text table.members room ts
place_tree text (in_part (p, d, ends) (in_part {l = r} (ps, ds) none)) = (p ∷ ps, rw (append-nil r) (parts_append d ds))

call_tree : (text : List ℕ) {room : ℕ} {ts : List Token} →
    Have text room (table.a token.Dot ∷ table.a token.Identifier ∷ table.deep table.arguments ∷ table.part table.members ∷ []) ts →
    HasTree text table.members room ts
call_tree text (one t h known (one n hn also (in_deep (es, d) (in_part (ps, ds) none)))) =
    (part.Call (identifier_of text n) es ∷ ps, rw append-nil (grammar.one_more_call t n h hn d ds))

field_tree : (text : List ℕ) {room : ℕ} {ts : List Token} → Have text room (table.a token.Dot ∷ table.a token.Identifier ∷ []) ts →
    HasTree text table.place room ts
field_tree text (one t h known (one n hn also none)) =
    (part.Field (identifier_of text n), grammar.one_more_field t n h hn grammar.no_parts, place-Field (identifier_of text n))

element_tree : (text : List ℕ) {room : ℕ} {ts : List Token} → Have text room (table.deep table.index ∷ []) ts → HasTree text table.place room ts
element_tree text (in_deep (enclosed {inner = e} t u h d hu) none) =
    (part.Index e, rw append-nil (grammar.one_more_index t u h d hu grammar.no_parts), place-Index e)

enclosed_tree : (text : List ℕ) {opens closes : TokenKind} {room : ℕ} {ts : List Token} →
    Have text room (table.a opens ∷ table.part table.expression ∷ table.a closes ∷ []) ts → IsEnclosed opens closes text room ts
enclosed_tree text (one t h known (in_part (e, d) (one u hu also none))) = enclosed t u h d hu

selected_field_tree : (text : List ℕ) {room : ℕ} {ts : List Token} →
    Have text room (table.a token.Dot ∷ table.a token.Identifier ∷ table.part table.members ∷ []) ts → HasTree text table.selected room ts
selected_field_tree text (one t h known (one n hn also (in_part (ps, ds) none))) =
    (part.Field (identifier_of text n) ∷ ps, rw append-nil (grammar.one_more_field t n h hn ds), λ c. cc, index-Field (identifier_of text n) ps)

selected_call_tree : (text : List ℕ) {room : ℕ} {ts : List Token} →
    Have text room (table.a token.Dot ∷ table.a token.Identifier ∷ table.deep table.arguments ∷ table.part table.members ∷ []) ts →
    HasTree text table.selected room ts
selected_call_tree text (one t h known (one n hn also (in_deep (es, d) (in_part (ps, ds) none)))) =
    (part.Call (identifier_of text n) es ∷ ps, rw append-nil (grammar.one_more_call t n h hn d ds), λ c. cc, index-Call (identifier_of text n) es ps)

no_unindexed_tree : (text : List ℕ) {room : ℕ} {ts : List Token} → Have text room [] ts → HasTree text table.unindexed room ts
no_unindexed_tree text none = ([], grammar.no_parts, refl)

selected_tree : (text : List ℕ) {room : ℕ} {ts : List Token} → Have text room (table.part table.selected ∷ []) ts → HasTree text table.unindexed room ts
selected_tree text (in_part (ps, ds, some, free) none) = (ps, rw append-nil ds, free)

-- ---- targets

ends_behind : (ps : List PathPart) (p : PathPart) → ends_in_place (ps ++ p ∷ []) ≡ ends_in_place (p ∷ [])
ends_behind [] p = refl
ends_behind (q ∷ []) p = refl
ends_behind (q ∷ r ∷ ps) p = ends_behind (r ∷ ps) p

pub begins_before : (ps qs : List PathPart) → ps ≢ [] → begins_with_index (ps ++ qs) ≡ begins_with_index ps
begins_before [] qs some = absurd (some refl)
begins_before (p ∷ ps) qs some = refl

placed : (text : List ℕ) {room : ℕ} {l m r : List Token} {p : PathPart} (first : Expr) → IsPrimary text room l first →
    (ps : List PathPart) → AreParts text room m ps → AreParts text room r (p ∷ []) → ends_in_place (p ∷ []) ≡ true →
    (is_open_creation first && begins_with_index (ps ++ p ∷ [])) ≡ false → HasTree text table.target room (l ++ (m ++ (r ++ [])))
placed text {r = r} {p = p} first d ps ds es ends free =
    rw (append-nil r) (
      tree.Path first (ps ++ p ∷ []),
      grammar.with_parts d (parts_append ds es) (some ps) free,
      target-Path first (ps ++ p ∷ []) ∙ (ends_behind ps p ∙ ends),
    )
  where
    some : (ps : List PathPart) → ps ++ p ∷ [] ≢ []
    some [] c = cc
    some (q ∷ ps) c = cc

name_target_tree : (text : List ℕ) {room : ℕ} {ts : List Token} → Have text room (table.a token.Identifier ∷ []) ts → HasTree text table.target room ts
name_target_tree text (one n h known none) = (tree.Name (identifier_of text n), grammar.alone (grammar.name n h), target-Name (identifier_of text n))

place_target_tree : (text : List ℕ) {room : ℕ} {ts : List Token} →
    Have text room (table.part table.primary ∷ table.part table.members ∷ table.part table.place ∷ []) ts → HasTree text table.target room ts
place_target_tree text (in_part (e, d, free) (in_part (ps, ds) (in_part (p, es, ends) none))) = placed text e d ps ds es ends (not_open e _ free)

created_field_tree : (text : List ℕ) {room : ℕ} {ts : List Token} →
    Have text room (table.part table.open_creation ∷ table.a token.Dot ∷ table.a token.Identifier ∷ []) ts → HasTree text table.target room ts
created_field_tree text (in_part is (one t h known (one n hn also none))) =
    let array = created text is in
    let field = part.Field (identifier_of text n) in
    placed text {m = []} array.0 array.1 [] grammar.no_parts (grammar.one_more_field t n h hn grammar.no_parts) (place-Field (identifier_of text n))
    (both_not (is_open_creation array.0) (index-Field (identifier_of text n) []))

created_place_tree : (text : List ℕ) {room : ℕ} {ts : List Token} →
    Have text room (table.part table.open_creation ∷ table.part table.selected ∷ table.part table.place ∷ []) ts → HasTree text table.target room ts
created_place_tree text (in_part is (in_part (ps, ds, some, free) (in_part (p, es, ends) none))) =
    let array = created text is in
    placed text array.0 array.1 ps ds es ends (both_not (is_open_creation array.0) (begins_before ps (p ∷ []) some ∙ free))

-- ---- primary expressions

literal_tree : (text : List ℕ) {room : ℕ} {ts : List Token} → Have text room (table.any class.is_literal ∷ []) ts → HasTree text table.primary room ts
literal_tree text (among t is known none) =
    let value = known is in (tree.Literal t.span value.0, grammar.literal t value.0 value.1, open-Literal t.span value.0)

this_tree : (text : List ℕ) {room : ℕ} {ts : List Token} → Have text room (table.a token.This ∷ []) ts → HasTree text table.primary room ts
this_tree text (one t h known none) = (tree.This t.span, grammar.this t h, open-This t.span)

parenthesized_tree : (text : List ℕ) {room : ℕ} {ts : List Token} → Have text room (table.deep table.parenthesized ∷ []) ts →
    HasTree text table.primary room ts
parenthesized_tree text (in_deep (enclosed {inner = e} t u h d hu) none) =
    (tree.Parenthesized t.span e, rw append-nil (grammar.parenthesized t u h d hu), open-Parenthesized t.span e)

name_tree : (text : List ℕ) {room : ℕ} {ts : List Token} → Have text room (table.a token.Identifier ∷ []) ts → HasTree text table.primary room ts
name_tree text (one n h known none) = (tree.Name (identifier_of text n), grammar.name n h, open-Name (identifier_of text n))

simple_call_tree : (text : List ℕ) {room : ℕ} {ts : List Token} →
    Have text room (table.a token.Identifier ∷ table.deep table.arguments ∷ []) ts → HasTree text table.primary room ts
simple_call_tree text (one n h known (in_deep (es, d) none)) =
    (tree.Call (identifier_of text n) es, rw append-nil (grammar.call n h d), open-Call (identifier_of text n) es)

super_call_tree : (text : List ℕ) {room : ℕ} {ts : List Token} →
    Have text room (table.a token.Super ∷ table.a token.Dot ∷ table.a token.Identifier ∷ table.deep table.arguments ∷ []) ts →
    HasTree text table.primary room ts
super_call_tree text (one t h known (one v hv also (one n hn more (in_deep (es, d) none)))) =
    (tree.SuperCall t.span (identifier_of text n) es, rw append-nil (grammar.super_call t v n h hv hn d), open-SuperCall t.span (identifier_of text n) es)

new_object_tree : (text : List ℕ) {room : ℕ} {ts : List Token} →
    Have text room (table.a token.New ∷ table.a token.Identifier ∷ table.deep table.arguments ∷ []) ts → HasTree text table.primary room ts
new_object_tree text (one t h known (one n hn also (in_deep (es, d) none))) =
    (tree.New t.span (identifier_of text n) es, rw append-nil (grammar.new_object t n h hn d), open-New t.span (identifier_of text n) es)

new_array_tree : (text : List ℕ) {room : ℕ} {ts : List Token} →
    Have text room (table.a token.New ∷ table.any class.is_type_name ∷ table.part table.sizes ∷ table.a token.LeftBracket ∷ table.a token.RightBracket
    ∷ table.part table.brackets ∷ []) ts → HasTree text table.primary room ts
new_array_tree text (one t h known (among n is also (in_part (es, ds, some) (one v hv first (one u hu second (in_part (dims, b) none)))))) = (
  tree.NewArray t.span (type_of text n (length es + suc dims)) es,
  rw append-nil (grammar.new_array t n h (type_name_kind n.kind ∙ is) ds some (leaves.one_more v u hv hu b)),
  open-unsized t.span text n es dims,
)

braces_tree : (text : List ℕ) {room dims : ℕ} {b l : List Token} {vs : List Initial} (t n : Token) →
    t.kind ≡ token.New → names_type n.kind ≡ true → AreBrackets b dims → 0 < dims → AreBraces text room l vs →
    HasTree text table.primary room (t ∷ n ∷ (b ++ l))
braces_tree text {dims = dims} t n h hn are some (grammar.no_values v u hv hu) = (
  tree.NewArrayOf t.span (type_of text n dims) v.span [],
  grammar.new_array_of t n v h hn are some (grammar.no_values v u hv hu),
  open-NewArrayOf t.span (type_of text n dims) v.span [],
)
braces_tree text {dims = dims} {vs = vs} t n h hn are some (grammar.some_values v u hv d hu) = (
  tree.NewArrayOf t.span (type_of text n dims) v.span vs,
  grammar.new_array_of t n v h hn are some (grammar.some_values v u hv d hu),
  open-NewArrayOf t.span (type_of text n dims) v.span vs,
)

filled_array_tree : (text : List ℕ) {room : ℕ} {ts : List Token} →
    Have text room (table.a token.New ∷ table.any class.is_type_name ∷ table.a token.LeftBracket ∷ table.a token.RightBracket ∷ table.part table.brackets
    ∷ table.deep table.braces ∷ []) ts → HasTree text table.primary room ts
filled_array_tree text (one t h known (among n is also (one v hv first (one u hu second (in_part {l = b} (dims, are) (in_deep {l = l} (vs, d) none)))))) =
    rw (append-nil l) (braces_tree text {b = v ∷ u ∷ b} t n h (type_name_kind n.kind ∙ is) (leaves.one_more v u hv hu are) (omega arith) d)

open_creation_tree : (text : List ℕ) {room : ℕ} {ts : List Token} →
    Have text room (table.a token.New ∷ table.any class.is_type_name ∷ table.part table.sizes ∷ []) ts → IsCreation text room ts
open_creation_tree text (one t h known (among n is also (in_part (es, ds, some) none))) =
    rw append-nil (creation t n h (type_name_kind n.kind ∙ is) ds some)

last_size_tree : (text : List ℕ) {room : ℕ} {ts : List Token} → Have text room (table.deep table.index ∷ []) ts → HasTree text table.sizes room ts
last_size_tree text (in_deep (enclosed {inner = e} t u h d hu) none) = (e ∷ [], rw append-nil (grammar.one_more_size t u h d hu grammar.no_sizes), λ c. cc)

more_sizes_tree : (text : List ℕ) {room : ℕ} {ts : List Token} →
    Have text room (table.deep table.index ∷ table.part table.sizes ∷ []) ts → HasTree text table.sizes room ts
more_sizes_tree text (in_deep (enclosed {l = l} {inner = e} t u h d hu) (in_part {l = r} (es, ds, some) none)) =
    (e ∷ es, rw (append-nil r, append_assoc l (u ∷ []) r) (grammar.one_more_size t u h d hu ds), λ c. cc)

no_brackets_tree : (text : List ℕ) {room : ℕ} {ts : List Token} → Have text room [] ts → HasTree text table.brackets room ts
no_brackets_tree text none = (zero, leaves.none)

more_brackets_tree : (text : List ℕ) {room : ℕ} {ts : List Token} →
    Have text room (table.a token.LeftBracket ∷ table.a token.RightBracket ∷ table.part table.brackets ∷ []) ts → HasTree text table.brackets room ts
more_brackets_tree text (one t h known (one u hu also (in_part (dims, b) none))) = (suc dims, rw append-nil (leaves.one_more t u h hu b))

-- ---- arguments, values and types

no_arguments_tree : (text : List ℕ) {room : ℕ} {ts : List Token} → Have text room (table.a token.LeftParen ∷ table.a token.RightParen ∷ []) ts →
    HasTree text table.arguments room ts
no_arguments_tree text (one t h known (one u hu also none)) = ([], grammar.no_arguments t u h hu)

some_arguments_tree : (text : List ℕ) {room : ℕ} {ts : List Token} →
    Have text room (table.a token.LeftParen ∷ table.part table.listed ∷ table.a token.RightParen ∷ []) ts → HasTree text table.arguments room ts
some_arguments_tree text (one t h known (in_part (es, d) (one u hu also none))) = (es, grammar.some_arguments t u h d hu)

last_argument_tree : (text : List ℕ) {room : ℕ} {ts : List Token} → Have text room (table.part table.expression ∷ []) ts →
    HasTree text table.listed room ts
last_argument_tree text (in_part (e, d) none) = (e ∷ [], rw append-nil (grammar.last_listed d))

more_arguments_tree : (text : List ℕ) {room : ℕ} {ts : List Token} →
    Have text room (table.part table.expression ∷ table.a token.Comma ∷ table.part table.listed ∷ []) ts → HasTree text table.listed room ts
more_arguments_tree text (in_part (e, d) (one t h known (in_part (es, ds) none))) = (e ∷ es, rw append-nil (grammar.one_more_listed t d h ds))

no_values_tree : (text : List ℕ) {room : ℕ} {ts : List Token} → Have text room (table.a token.LeftBrace ∷ table.a token.RightBrace ∷ []) ts →
    HasTree text table.braces room ts
no_values_tree text (one t h known (one u hu also none)) = ([], grammar.no_values t u h hu)

some_values_tree : (text : List ℕ) {room : ℕ} {ts : List Token} →
    Have text room (table.a token.LeftBrace ∷ table.part table.initials ∷ table.a token.RightBrace ∷ []) ts → HasTree text table.braces room ts
some_values_tree text (one t h known (in_part (vs, d) (one u hu also none))) = (vs, grammar.some_values t u h d hu)

last_value_tree : (text : List ℕ) {room : ℕ} {ts : List Token} → Have text room (table.part table.initial ∷ []) ts → HasTree text table.initials room ts
last_value_tree text (in_part (v, d) none) = (v ∷ [], rw append-nil (grammar.last_initial d))

last_value_with_comma_tree : (text : List ℕ) {room : ℕ} {ts : List Token} →
    Have text room (table.part table.initial ∷ table.a token.Comma ∷ []) ts → HasTree text table.initials room ts
last_value_with_comma_tree text (in_part (v, d) (one t h known none)) = (v ∷ [], grammar.last_with_comma t d h)

more_values_tree : (text : List ℕ) {room : ℕ} {ts : List Token} →
    Have text room (table.part table.initial ∷ table.a token.Comma ∷ table.part table.initials ∷ []) ts → HasTree text table.initials room ts
more_values_tree text (in_part (v, d) (one t h known (in_part (vs, ds) none))) = (v ∷ vs, rw append-nil (grammar.one_more_initial t d h ds))

value_tree : (text : List ℕ) {room : ℕ} {ts : List Token} → Have text room (table.part table.expression ∷ []) ts → HasTree text table.initial room ts
value_tree text (in_part (e, d) none) = (initial.Value e, rw append-nil (grammar.initial_value d))

array_value : (text : List ℕ) {room : ℕ} {l : List Token} {vs : List Initial} → AreBraces text room l vs → (v : Initial) × IsInitial text room l v
array_value text (grammar.no_values t u h hu) = (initial.Array t.span [], grammar.initial_array t (grammar.no_values t u h hu))
array_value text {vs = vs} (grammar.some_values t u h d hu) = (initial.Array t.span vs, grammar.initial_array t (grammar.some_values t u h d hu))

values_tree : (text : List ℕ) {room : ℕ} {ts : List Token} → Have text room (table.deep table.braces ∷ []) ts → HasTree text table.initial room ts
values_tree text (in_deep {l = l} (vs, d) none) = rw (append-nil l) (array_value text d)

type_tree : (text : List ℕ) {room : ℕ} {ts : List Token} →
    Have text room (table.any class.is_type_name ∷ table.part table.brackets ∷ []) ts → HasTree text table.type_use room ts
type_tree text (among n is known (in_part (dims, b) none)) = (type_of text n dims, rw append-nil (named n (type_name_kind n.kind ∙ is) b))

-- ---- the productions

tree_of : (text : List ℕ) (n : Part) (p : List Symbol) (room : ℕ) (ts : List Token) → IsProduction n p → Whole n room ts → AllKnown (HasValue text) ts →
    Have text room p ts → HasTree text n room ts
tree_of text n p room ts table.of_conditional w known s = conditional_tree text s
tree_of text n p room ts table.of_assignment w known s = assignment_tree text s
tree_of text n p room ts table.of_operators w known s = operators_tree text s
tree_of text n p room ts table.of_choice w known s = choice_tree text s
tree_of text n p room ts (table.of_level less) w known s = level_tree text less s
tree_of text n p room ts table.of_operand w known s = operand_tree text s
tree_of text n p room ts table.no_operation w known s = no_operation_tree text s
tree_of text n p room ts (table.of_operation less) w known s = operation_tree text s
tree_of text n p room ts table.of_instanceof w known s = instanceof_tree text s
tree_of text n p room ts table.of_prefix w known s = prefix_tree text s
tree_of text n p room ts table.of_step w known s = step_tree text s
tree_of text n p room ts table.of_primitive_cast w known s = signed text (primitive_cast_tree text s)
tree_of text n p room ts table.of_named_cast w known s = signed text (named_cast_tree text s)
tree_of text n p room ts table.of_postfix w known s = postfix_tree text s
tree_of text n p room ts table.of_negation w known s = negation_tree text s
tree_of text n p room ts table.of_unsigned_primitive_cast w known s = primitive_cast_tree text s
tree_of text n p room ts table.of_unsigned_named_cast w known s = named_cast_tree text s
tree_of text n p room ts table.of_unsigned_postfix w known s = unsigned_postfix_tree text s
tree_of text n p room ts table.of_primitive w known s = primitive_head text s
tree_of text n p room ts table.of_named w known s = named_head text s
tree_of text n p room ts table.of_path w known s = path_tree text s
tree_of text n p room ts table.of_stepped w known s = stepped_tree text s
tree_of text n p room ts table.of_members w known s = members_tree text s
tree_of text n p room ts table.of_created w known s = created_tree text s
tree_of text n p room ts table.no_member w known s = no_member_tree text s
tree_of text n p room ts table.of_place w known s = place_tree text s
tree_of text n p room ts table.of_call w known s = call_tree text s
tree_of text n p room ts table.of_field w known s = field_tree text s
tree_of text n p room ts table.of_element w known s = element_tree text s
tree_of text n p room ts table.of_index w known s = enclosed_tree text s
tree_of text n p room ts table.of_name_target w known s = name_target_tree text s
tree_of text n p room ts table.of_place_target w known s = place_target_tree text s
tree_of text n p room ts table.of_created_field w known s = created_field_tree text s
tree_of text n p room ts table.of_created_place w known s = created_place_tree text s
tree_of text n p room ts table.of_literal w known s = literal_tree text s
tree_of text n p room ts table.of_this w known s = this_tree text s
tree_of text n p room ts table.of_parenthesized w known s = parenthesized_tree text s
tree_of text n p room ts table.of_name w known s = name_tree text s
tree_of text n p room ts table.of_simple_call w known s = simple_call_tree text s
tree_of text n p room ts table.of_super_call w known s = super_call_tree text s
tree_of text n p room ts table.of_new_object w known s = new_object_tree text s
tree_of text n p room ts table.of_new_array w known s = new_array_tree text s
tree_of text n p room ts table.of_filled_array w known s = filled_array_tree text s
tree_of text n p room ts table.of_open_creation w known s = open_creation_tree text s
tree_of text n p room ts table.no_unindexed w known s = no_unindexed_tree text s
tree_of text n p room ts table.of_selected w known s = selected_tree text s
tree_of text n p room ts table.of_selected_field w known s = selected_field_tree text s
tree_of text n p room ts table.of_selected_call w known s = selected_call_tree text s
tree_of text n p room ts table.in_parentheses w known s = enclosed_tree text s
tree_of text n p room ts table.last_size w known s = last_size_tree text s
tree_of text n p room ts table.more_sizes w known s = more_sizes_tree text s
tree_of text n p room ts table.no_brackets w known s = no_brackets_tree text s
tree_of text n p room ts table.more_brackets w known s = more_brackets_tree text s
tree_of text n p room ts table.no_arguments w known s = no_arguments_tree text s
tree_of text n p room ts table.some_arguments w known s = some_arguments_tree text s
tree_of text n p room ts table.last_argument w known s = last_argument_tree text s
tree_of text n p room ts table.more_arguments w known s = more_arguments_tree text s
tree_of text n p room ts table.no_values w known s = no_values_tree text s
tree_of text n p room ts table.some_values w known s = some_values_tree text s
tree_of text n p room ts table.last_value w known s = last_value_tree text s
tree_of text n p room ts table.last_value_with_comma w known s = last_value_with_comma_tree text s
tree_of text n p room ts table.more_values w known s = more_values_tree text s
tree_of text n p room ts table.of_value w known s = value_tree text s
tree_of text n p room ts table.of_values w known s = values_tree text s
tree_of text n p room ts table.of_type w known s = type_tree text s
tree_of text n p room ts _ w known s = tt

-- what is whole has a tree
pub tree_spelled : (text : List ℕ) (n : Part) (room : ℕ) (ts : List Token) → IsWhole n room (kinds ts) → AllKnown (HasValue text) ts →
    HasTree text n room ts
tree_spelled text n room ts w known = by_whole (tree_of text) n room ts w known
