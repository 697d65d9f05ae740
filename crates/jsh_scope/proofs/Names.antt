-- Maps by name against tests of names.
use Rattle.std.proofs.Common.{◌≡◌, ℕ, Bool, true, false, cond, ◌⊎◌, inl, inr, List, [], ◌∷◌, ◌++◌, Option, Some, None, BTreeMap, refl, sym, ◌∙◌, ap, append-nil}
use Rattle.std.specs.Option.{is_some, option_or}
use Rattle.std.specs.Ordering.{is_eq, nat_cmp}
use Rattle.std.specs.Cmp.Lexicographic.{slice_cmp, bytes_decides, nat_list_eq_equiv}
use Rattle.std.specs.BTreeMap.{get, IsEmpty}
use Rattle.std.proofs.lemmas.Bool.{cases_Bool}
use Rattle.std.proofs.lemmas.Map.Text.{is_eq-slice_cmp}
use Rattle.jsh_closure.specs.Closure.{places_at}
use Rattle.jsh_scope.specs.Scope.{same_name}
use Rattle.jsh_scope.specs.Indexes.{found, AddsPlace, AppendsPlace}

pub or_none : {A : Type 0} (o : Option A) → option_or o None ≡ o
or_none None = refl
or_none (Some x) = refl

or_some : {A : Type 0} (o p : Option A) → is_some o ≡ true → o ≡ option_or o p
or_some None p held = absurd (cc)
or_some (Some x) p held = refl

none_of : {A : Type 0} (o : Option A) → is_some o ≡ false → o ≡ None
none_of None held = refl
none_of (Some x) held = absurd (cc)

-- the key that a map compares is the name
tied : (a b : List ℕ) → is_eq (slice_cmp nat_cmp a b) ≡ same_name b a
tied a b = is_eq-slice_cmp a b ∙ nat_list_eq_equiv.symm a b

-- after an insertion at a name that the map didn't have
pub adds_inserted : (name : List ℕ) (at : ℕ) (old new : BTreeMap (List ℕ) ℕ) → is_some (found old name) ≡ false
    → ((q : List ℕ) → found new q ≡ cond (is_eq (slice_cmp nat_cmp name q)) (Some at) (found old q))
    → AddsPlace (λ other. same_name other name) at old new
adds_inserted name at old new absent updates = record { places = λ q. updates q ∙ ap (λ (b : Bool). cond b (Some at) (found old q)) (tied name q) ∙ here q (cases_Bool (same_name q name)) }
  where
    here : (q : List ℕ) → (same_name q name ≡ true) ⊎ (same_name q name ≡ false) → cond (same_name q name) (Some at) (found old q) ≡ option_or (found old q) (cond (same_name q name) (Some at) None)
    here q (inl same) =
        let old_none : found old q ≡ None = ap (λ (k : List ℕ). found old k) ((bytes_decides q name).0 same) ∙ none_of (found old name) absent in
        rw (same, old_none) refl
    here q (inr apart) = rw apart (sym (or_none (found old q)))

-- nothing is inserted at a name that the map has
pub adds_kept : (name : List ℕ) (at : ℕ) (old : BTreeMap (List ℕ) ℕ) → is_some (found old name) ≡ true → AddsPlace (λ other. same_name other name) at old old
adds_kept name at old present = record { places = λ q. here q (cases_Bool (same_name q name)) }
  where
    here : (q : List ℕ) → (same_name q name ≡ true) ⊎ (same_name q name ≡ false) → found old q ≡ option_or (found old q) (cond (same_name q name) (Some at) None)
    here q (inl same) = or_some (found old q) (cond (same_name q name) (Some at) None) (ap (λ (k : List ℕ). is_some (found old k)) ((bytes_decides q name).0 same) ∙ present)
    here q (inr apart) = rw apart (sym (or_none (found old q)))

-- after a removal and an insertion of the list with one place more
pub appends_inserted : (name : List ℕ) (at : ℕ) (old between new : BTreeMap (List ℕ) (List ℕ))
    → ((q : List ℕ) → found between q ≡ cond (is_eq (slice_cmp nat_cmp name q)) None (found old q))
    → ((q : List ℕ) → found new q ≡ cond (is_eq (slice_cmp nat_cmp name q)) (Some (places_at (found old name) ++ at ∷ [])) (found between q))
    → AppendsPlace (λ other. same_name other name) at old new
appends_inserted name at old between new removes inserts = record { places = λ q. ap places_at (inserts q ∙ ap (λ (b : Bool). cond b (Some (places_at (found old name) ++ at ∷ [])) (found between q)) (tied name q)) ∙ here q (cases_Bool (same_name q name)) }
  where
    here : (q : List ℕ) → (same_name q name ≡ true) ⊎ (same_name q name ≡ false)
        → places_at (cond (same_name q name) (Some (places_at (found old name) ++ at ∷ [])) (found between q)) ≡ places_at (found old q) ++ cond (same_name q name) (at ∷ []) []
    here q (inl same) = rw same (ap (λ (k : List ℕ). places_at (found old k) ++ at ∷ []) (sym ((bytes_decides q name).0 same)))
    here q (inr apart) = rw apart (ap places_at (removes q ∙ ap (λ (b : Bool). cond b None (found old q)) (tied name q ∙ apart)) ∙ sym (append-nil (places_at (found old q))))

pub adds_nothing : (at : ℕ) (old : BTreeMap (List ℕ) ℕ) → AddsPlace (λ other. false) at old old
adds_nothing at old = record { places = λ q. sym (or_none (found old q)) }

pub appends_nothing : (at : ℕ) (old : BTreeMap (List ℕ) (List ℕ)) → AppendsPlace (λ other. false) at old old
appends_nothing at old = record { places = λ q. sym (append-nil (places_at (found old q))) }
