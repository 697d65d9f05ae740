-- How operands begin, and what stands behind their first tokens.
use Rattle.std.proofs.Common.{◌≡◌, ℕ, zero, suc, Bool, true, List, [], ◌∷◌, ◌++◌, refl, sym, ap, subst, ◌∙◌, append_assoc}
use Rattle.jsh_tree.specs.declared.token.TokenKind.{TokenKind}
use Rattle.jsh_tree.specs.declared.token.TokenKind.TheVariants as token
use Rattle.jsh_grammar.specs.Classes.{is_literal, is_type_name, is_prefix, is_negation, is_step}
use Rattle.jsh_grammar.specs.Productions.{Symbol, a, any, part, deep}
use Rattle.jsh_grammar.specs.Productions as table
use Rattle.jsh_grammar.specs.Leads.{in_room}
use Rattle.jsh_recognizer.specs.declared.frame.Context.{Context}
use Rattle.jsh_recognizer.specs.declared.frame.Context.TheVariants as context
use Rattle.jsh_recognizer.specs.declared.frame.Ending.{Ending}
use Rattle.jsh_recognizer.specs.declared.frame.Ending.TheVariants as ending
use Rattle.jsh_recognizer.specs.declared.frame.Frame.TheVariants as frame
use Rattle.jsh_recognizer.specs.Meanings.{Stack, Follows, so_far, all_read, by_token, by_class, by_part, by_deep}
use Rattle.jsh_recognizer.specs.Meanings as means
use Rattle.jsh_recognizer.specs.Meanings.{After, More, Paths, Behind, Unindexed, Opens, Own}
use Rattle.jsh_recognizer.specs.Machine.{is_target}
use Rattle.jsh_recognizer.proofs.TakesStep.{split}

negation_is_prefix : (k : TokenKind) → is_negation k ≡ true → is_prefix k ≡ true
negation_is_prefix token.Bang is = refl
negation_is_prefix _ is = cc

-- ---- members one by one

-- behind the first symbols, further members
abbrev pub Unrolled : Bool → ℕ → Context → Ending → Stack → Stack → List TokenKind → Type 0
Unrolled whole room c e first stack ks = (rest : Stack) × More room c e rest × Follows whole (first ++ (rest ++ stack)) ks

-- what stands behind members, whatever they end in
abbrev pub AnyMore : ℕ → Context → Stack → Type 0
AnyMore room c base = (e : Ending) → More room c e base

-- the symbol at the head of a stack, or any other
abbrev head_symbol : Stack → Symbol
head_symbol [] = part table.members
head_symbol (s ∷ stack) = s.1

same_head : {r q : ℕ} {s t : Symbol} {x y : Stack} → (r, s) ∷ x ≡ (q, t) ∷ y → s ≡ t
same_head e = ap head_symbol e

abbrev head_room : Stack → ℕ
head_room [] = zero
head_room (s ∷ stack) = s.0

same_room : {r q : ℕ} {s t : Symbol} {x y : Stack} → (r, s) ∷ x ≡ (q, t) ∷ y → r ≡ q
same_room e = ap head_room e

unroll_at : {whole : Bool} {all : Stack} {ks : List TokenKind} → Follows whole all ks → {room : ℕ} {c : Context} {base : Stack} →
    AnyMore room c base → (e : Ending) (first stack : Stack) → all ≡ first ++ ((room, part table.members) ∷ (base ++ stack)) →
    Unrolled whole room c e first stack ks
unroll_at so_far {base = base} more e first stack same = (base, more e, so_far)
unroll_at all_read more e [] stack same = absurd cc
unroll_at all_read more e (s ∷ first) stack same = absurd cc
unroll_at (by_token {k = k} f) more e [] stack same = let h : a k ≡ part table.members = same_head same in absurd cc
unroll_at {whole} (by_token {room = r} {k = k} {stack = x} {ks = ks} f) more e (s ∷ first) stack same =
    let eq : (r, a k) ≡ s = cc in
    let h = unroll_at f more e first stack cc in
    (h.0, h.1, subst (λ z. Follows whole (z ∷ (first ++ (h.0 ++ stack))) (k ∷ ks)) eq (by_token h.2))
unroll_at (by_class {test = test} is f) more e [] stack same = let h : any test ≡ part table.members = same_head same in absurd cc
unroll_at {whole} (by_class {room = r} {test = test} {k = k} {stack = x} {ks = ks} is f) more e (s ∷ first) stack same =
    let eq : (r, any test) ≡ s = cc in
    let h = unroll_at f more e first stack cc in
    (h.0, h.1, subst (λ z. Follows whole (z ∷ (first ++ (h.0 ++ stack))) (k ∷ ks)) eq (by_class is h.2))
unroll_at {whole} {ks = ks} (by_part {stack = x} table.no_member f) {base = base} more e [] stack same =
    let ex : x ≡ base ++ stack = cc in (base, more e, subst (λ z. Follows whole z ks) ex f)
unroll_at {whole} {ks = ks} (by_part {room = r} {stack = x} table.of_place f) {room = room} {base = base} more e [] stack same =
    let er : r ≡ room = same_room same in
    let ex : x ≡ base ++ stack = cc in
    let h = unroll_at f more ending.Place ((room, part table.place) ∷ []) stack cc in
    ((room, part table.place) ∷ h.0, means.more_places h.1, h.2)
unroll_at {whole} {ks = ks} (by_part {room = r} {stack = x} table.of_call f) {room = room} {base = base} more e [] stack same =
    let er : r ≡ room = same_room same in
    let ex : x ≡ base ++ stack = cc in
    let h = unroll_at f more ending.Call ((room, a token.Dot) ∷ (room, a token.Identifier) ∷ (room, deep table.arguments) ∷ []) stack cc in
    ((room, a token.Dot) ∷ (room, a token.Identifier) ∷ (room, deep table.arguments) ∷ h.0, means.more_calls h.1, h.2)
unroll_at {whole} {ks = ks} (by_part {n = n} is f) more e [] stack same = let h : part n ≡ part table.members = same_head same in absurd cc
unroll_at {whole} {ks = ks} (by_part {room = r} {n = n} {p = p} {stack = x} is f) {room} {c} {base} more e (s ∷ first) stack same =
    let eq : (r, part n) ≡ s = cc in
    let rest : x ≡ first ++ ((room, part table.members) ∷ (base ++ stack)) = cc in
    let h = unroll_at f more e (in_room r p ++ first) stack
    (ap (λ z. in_room r p ++ z) rest ∙ sym (append_assoc (in_room r p) first ((room, part table.members) ∷ (base ++ stack)))) in (
      h.0,
      h.1,
      subst (λ z. Follows whole (z ∷ (first ++ (h.0 ++ stack))) ks) eq
          (by_part is (subst (λ z. Follows whole z ks) (append_assoc (in_room r p) first (h.0 ++ stack)) h.2)),
    )
unroll_at (by_deep {n = n} is f) more e [] stack same = let h : deep n ≡ part table.members = same_head same in absurd cc
unroll_at {whole} {ks = ks} (by_deep {room = r} {n = n} {p = p} {stack = x} is f) {room} {c} {base} more e (s ∷ first) stack same =
    let eq : (suc r, deep n) ≡ s = cc in
    let rest : x ≡ first ++ ((room, part table.members) ∷ (base ++ stack)) = cc in
    let h = unroll_at f more e (in_room r p ++ first) stack
    (ap (λ z. in_room r p ++ z) rest ∙ sym (append_assoc (in_room r p) first ((room, part table.members) ∷ (base ++ stack)))) in (
      h.0,
      h.1,
      subst (λ z. Follows whole (z ∷ (first ++ (h.0 ++ stack))) ks) eq
          (by_deep is (subst (λ z. Follows whole z ks) (append_assoc (in_room r p) first (h.0 ++ stack)) h.2)),
    )

-- members behind the first symbols as places and calls
pub unroll : {whole : Bool} {room : ℕ} {c : Context} {base : Stack} {ks : List TokenKind} → AnyMore room c base → (e : Ending) (first stack : Stack) →
    Follows whole (first ++ ((room, part table.members) ∷ (base ++ stack))) ks → Unrolled whole room c e first stack ks
unroll more e first stack f = unroll_at f more e first stack refl

-- ---- the views

-- what stands behind a step
pub data Stepping (room : ℕ) : Context → Stack → Type 0 where
  step_of_value : {c : Context} {rest : Stack} → Behind room c rest → Stepping room c rest
  step_of_effect : Stepping room context.Effect []

-- How an operand begins, with all that belongs to it.
pub data Begun (whole : Bool) (stack : Stack) : ℕ → Context → TokenKind → List TokenKind → Type 0 where
  literal_first : {room : ℕ} {c : Context} {k : TokenKind} {ks : List TokenKind} {rest : Stack} → is_literal k ≡ true → More room c ending.Other rest →
      Follows whole (rest ++ stack) ks → Begun whole stack room c k ks
  this_first : {room : ℕ} {c : Context} {ks : List TokenKind} {rest : Stack} → More room c ending.Other rest →
      Follows whole (rest ++ stack) ks → Begun whole stack room c token.This ks
  name_first : {room : ℕ} {c : Context} {ks : List TokenKind} {rest : Stack} → Paths room c ending.Name rest →
      Follows whole (rest ++ stack) ks → Begun whole stack room c token.Identifier ks
  super_first : {room : ℕ} {c : Context} {ks : List TokenKind} {rest : Stack} → More room c ending.Call rest →
      Follows whole ((room, a token.Dot) ∷ (room, a token.Identifier) ∷ (room, deep table.arguments) ∷ (rest ++ stack)) ks →
      Begun whole stack room c token.Super ks
  parenthesis_first : {room : ℕ} {c : Context} {ks : List TokenKind} {rest : Stack} → Opens room c rest →
      Follows whole (rest ++ stack) ks → Begun whole stack room c token.LeftParen ks
  new_first : {room : ℕ} {c : Context} {ks : List TokenKind} {rest : Stack} → Own room (frame.New c) rest →
      Follows whole (rest ++ stack) ks → Begun whole stack room c token.New ks
  step_first : {room : ℕ} {c : Context} {k : TokenKind} {ks : List TokenKind} {rest : Stack} → is_step k ≡ true → Stepping room c rest →
      Follows whole ((room, deep table.target) ∷ (rest ++ stack)) ks → Begun whole stack room c k ks
  prefix_first : {room : ℕ} {c : Context} {k : TokenKind} {ks : List TokenKind} {rest : Stack} → is_prefix k ≡ true → Behind room c rest →
      Follows whole ((room, deep table.unary) ∷ (rest ++ stack)) ks → Begun whole stack room c k ks

-- ---- primary expressions

pub primary_begun : {whole : Bool} {room : ℕ} {c : Context} {base : Stack} (stack : Stack) {k : TokenKind} {ks : List TokenKind} → AnyMore room c base →
    Follows whole ((room, part table.primary) ∷ (room, part table.members) ∷ (base ++ stack)) (k ∷ ks) → Begun whole stack room c k ks
primary_begun stack more (by_part table.of_literal (by_class is f)) = let h = unroll more ending.Other [] stack f in literal_first is h.1 h.2
primary_begun stack more (by_part table.of_this (by_token f)) = let h = unroll more ending.Other [] stack f in this_first h.1 h.2
primary_begun {room} stack more (by_part table.of_parenthesized (by_deep {room = r} table.in_parentheses (by_token f))) =
    let h = unroll more ending.Other ((r, part table.expression) ∷ (r, a token.RightParen) ∷ []) stack f in parenthesis_first (means.in_parentheses h.1) h.2
primary_begun stack more (by_part table.of_name (by_token f)) = let h = unroll more ending.Name [] stack f in name_first (means.as_it_ends h.1) h.2
primary_begun {room = room} stack more (by_part table.of_simple_call (by_token f)) =
    let h = unroll more ending.Call ((room, deep table.arguments) ∷ []) stack f in name_first (means.name_called h.1) h.2
primary_begun {room = room} stack more (by_part table.of_super_call (by_token f)) =
    let h = unroll more ending.Call ((room, a token.Dot) ∷ (room, a token.Identifier) ∷ (room, deep table.arguments) ∷ []) stack f in super_first h.1 h.2
primary_begun {room = room} stack more (by_part table.of_new_object (by_token f)) =
    let h = unroll more ending.Call ((room, a token.Identifier) ∷ (room, deep table.arguments) ∷ []) stack f in new_first (means.new_object h.1) h.2
primary_begun {room = room} stack more (by_part table.of_new_array (by_token f)) =
    let h = unroll more ending.Other
    (in_room room (any is_type_name ∷ part table.sizes ∷ a token.LeftBracket ∷ a token.RightBracket ∷ part table.brackets ∷ [])) stack f in
    new_first (means.new_array (means.with_sizes (means.closed h.1))) h.2
primary_begun {room = room} stack more (by_part table.of_filled_array (by_token f)) =
    let h = unroll more ending.Other
    (in_room room (any is_type_name ∷ a token.LeftBracket ∷ a token.RightBracket ∷ part table.brackets ∷ deep table.braces ∷ [])) stack f in
    new_first (means.new_array (means.with_values h.1)) h.2

-- ---- new arrays that end in a size

-- behind the sizes, what isn't an index
abbrev pub UnindexedAhead : Bool → ℕ → Context → Stack → List TokenKind → Type 0
UnindexedAhead whole room c stack ks = (rest : Stack) × Unindexed room c rest × Follows whole (rest ++ stack) ks

pub selected_ahead : {whole : Bool} {room : ℕ} {c : Context} {base : Stack} (stack : Stack) {ks : List TokenKind} → AnyMore room c base →
    Follows whole ((room, part table.selected) ∷ (base ++ stack)) ks → UnindexedAhead whole room c stack ks
selected_ahead {room = room} {base = base} stack more so_far =
    ((room, a token.Dot) ∷ (room, a token.Identifier) ∷ base, means.field_selected (more ending.Place), so_far)
selected_ahead {room = room} stack more (by_part table.of_selected_field f) =
    let h = unroll more ending.Place ((room, a token.Dot) ∷ (room, a token.Identifier) ∷ []) stack f in
    ((room, a token.Dot) ∷ (room, a token.Identifier) ∷ h.0, means.field_selected h.1, h.2)
selected_ahead {room = room} stack more (by_part table.of_selected_call f) =
    let h = unroll more ending.Call ((room, a token.Dot) ∷ (room, a token.Identifier) ∷ (room, deep table.arguments) ∷ []) stack f in
    ((room, a token.Dot) ∷ (room, a token.Identifier) ∷ (room, deep table.arguments) ∷ h.0, means.call_selected h.1, h.2)

unindexed_ahead : {whole : Bool} {room : ℕ} {c : Context} {base : Stack} (stack : Stack) {ks : List TokenKind} → Behind room c base →
    Follows whole ((room, part table.unindexed) ∷ (base ++ stack)) ks → UnindexedAhead whole room c stack ks
unindexed_ahead {base = base} stack behind so_far = (base, means.none_selected (means.value behind), so_far)
unindexed_ahead {base = base} stack behind (by_part table.no_unindexed f) = (base, means.none_selected (means.value behind), f)
unindexed_ahead stack behind (by_part table.of_selected f) = selected_ahead stack (λ e. means.no_more (means.value behind)) f

-- a new array that ends in a size begins
pub created_begun : {whole : Bool} {room : ℕ} {c : Context} {x : Stack} (stack : Stack) {k : TokenKind} {ks : List TokenKind} →
    ((r : List TokenKind) → Follows whole x r → UnindexedAhead whole room c stack r) →
    Follows whole ((room, part table.open_creation) ∷ x) (k ∷ ks) → Begun whole stack room c k ks
created_begun {room = room} {x = x} stack to (by_part table.of_open_creation (by_token f)) =
    let h = split ((room, any is_type_name) ∷ (room, part table.sizes) ∷ []) x f in
    let g = to h.0 h.1 in
    new_first (means.new_array (means.with_sizes (means.sized g.1))) (h.2 (g.0 ++ stack) g.2)

-- ---- targets

-- what stands behind a target
abbrev pub AnyTarget : ℕ → Context → Stack → Type 0
AnyTarget room c rest = (e : Ending) → is_target e ≡ true → After room c e rest

pub target_begun : {whole : Bool} {room : ℕ} {c : Context} {rest : Stack} (stack : Stack) {k : TokenKind} {ks : List TokenKind} → AnyTarget room c rest →
    Follows whole ((room, part table.target) ∷ (rest ++ stack)) (k ∷ ks) → Begun whole stack room c k ks
target_begun stack after (by_part table.of_name_target (by_token f)) = name_first (means.as_it_ends (means.no_more (after ending.Name refl))) f
target_begun stack after (by_part table.of_place_target f) = primary_begun stack (λ e. means.more_places (means.no_more (after ending.Place refl))) f
target_begun {room = room} {rest = rest} stack after (by_part table.of_created_field f) =
    created_begun stack (λ r g. ((room, a token.Dot) ∷ (room, a token.Identifier) ∷ rest, means.field_selected (means.no_more (after ending.Place refl)), g)) f
target_begun stack after (by_part table.of_created_place f) =
    created_begun stack (λ r g. selected_ahead stack (λ e. means.more_places (means.no_more (after ending.Place refl))) g) f

-- ---- operands

postfix_begun : {whole : Bool} {room : ℕ} {c : Context} {rest : Stack} (stack : Stack) {k : TokenKind} {ks : List TokenKind} → Behind room c rest →
    Follows whole ((room, part table.postfix) ∷ (rest ++ stack)) (k ∷ ks) → Begun whole stack room c k ks
postfix_begun stack behind (by_part table.of_path (by_part table.of_members f)) = primary_begun stack (λ e. means.no_more (means.value behind)) f
postfix_begun stack behind (by_part table.of_path (by_part table.of_created f)) = created_begun stack (λ r g. unindexed_ahead stack behind g) f
postfix_begun stack behind (by_part table.of_stepped f) = target_begun stack (λ e is. means.stepped is behind) f

pub unary_begun : {whole : Bool} {room : ℕ} {c : Context} {rest : Stack} (stack : Stack) {k : TokenKind} {ks : List TokenKind} → Behind room c rest →
    Follows whole ((room, part table.unary) ∷ (rest ++ stack)) (k ∷ ks) → Begun whole stack room c k ks
unary_begun stack behind (by_part table.of_prefix (by_class is f)) = prefix_first is behind f
unary_begun stack behind (by_part table.of_step (by_class is f)) = step_first is (step_of_value behind) f
unary_begun stack behind (by_part table.of_primitive_cast (by_deep table.of_primitive (by_token f))) = parenthesis_first (means.primitive_cast behind) f
unary_begun stack behind (by_part table.of_named_cast (by_deep table.of_named (by_token f))) = parenthesis_first (means.named_cast behind) f
unary_begun stack behind (by_part table.of_postfix f) = postfix_begun stack behind f

-- one without a sign
pub unsigned_begun : {whole : Bool} {room : ℕ} {c : Context} {rest : Stack} (stack : Stack) {k : TokenKind} {ks : List TokenKind} → Behind room c rest →
    Follows whole ((room, part table.unsigned) ∷ (rest ++ stack)) (k ∷ ks) → Begun whole stack room c k ks
unsigned_begun stack behind (by_part table.of_negation (by_class {k = k} is f)) = prefix_first (negation_is_prefix k is) behind f
unsigned_begun stack behind (by_part table.of_unsigned_primitive_cast (by_deep table.of_primitive (by_token f))) =
    parenthesis_first (means.primitive_cast behind) f
unsigned_begun stack behind (by_part table.of_unsigned_named_cast (by_deep table.of_named (by_token f))) = parenthesis_first (means.named_cast behind) f
unsigned_begun stack behind (by_part table.of_unsigned_postfix f) = postfix_begun stack behind f
