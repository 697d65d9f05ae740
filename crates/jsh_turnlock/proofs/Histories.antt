-- Beginnings of a history, and the entries of one number.
use Rattle.std.proofs.Common.{◌≡◌, ◌≢◌, ℕ, ◌+◌, ◌≤◌, List, [], ◌∷◌, ◌++◌, length, Bool, true, false, cond, eqb, refl, sym, ap, ◌∙◌, subst, arith, ne_eqb, length-append, append_assoc, append-nil}
use Rattle.std.specs.Prelude.{leb}
use Rattle.std.specs.List.{Contains, All}
use Rattle.std.proofs.lemmas.List.Elements.{filter-append, All-head, All-tail}
use Rattle.std.proofs.lemmas.Bool.{leb-true, leb-false}
use Rattle.jsh_turnlock.specs.declared.view.View.{View}
use Rattle.jsh_turnlock.specs.History.{own, StartsWith, IsAddedBy, longer}
use Rattle.jsh_turnlock.specs.Rule.{GoesOn}

module _ {I : Type 0} where
  pub own-append : (a b : List (ℕ × I)) (c : ℕ) → own (a ++ b) c ≡ own a c ++ own b c
  own-append a b c = filter-append (λ e. eqb e.0 c) a b

  -- entries of one number are none of another
  pub own_other : (n c : ℕ) (added : List (ℕ × I)) → All (λ e. e.0 ≡ n) added → c ≢ n → own added c ≡ []
  own_other n c [] all apart = refl
  own_other n c (e ∷ es) all apart =
      let here : e.0 ≡ n = All-head (λ (x : ℕ × I). x.0 ≡ n) e es all in
      let rest = own_other n c es (All-tail (λ (x : ℕ × I). x.0 ≡ n) e es all) apart in
      ap (λ b. cond b (e ∷ own es c) (own es c)) (ne_eqb e.0 c (λ same. apart (sym same ∙ here))) ∙ rest

  pub added_other : (n c : ℕ) (found history : List (ℕ × I)) → IsAddedBy n found history → c ≢ n → own history c ≡ own found c
  added_other n c found history (added, is, all) apart =
      ap (λ h. own h c) is ∙ own-append found added c ∙ ap (λ es. own found c ++ es) (own_other n c added all apart) ∙ append-nil (own found c)

  no_more : (a b : List (ℕ × I)) → length (a ++ b) ≡ length a → b ≡ []
  no_more a [] same = refl
  no_more a (e ∷ b) same = absurd (omega (arith, length-append a (e ∷ b)))

  pub starts : (a : List (ℕ × I)) → StartsWith a a
  starts a = ([], sym (append-nil a))

  pub starts_nothing : (a : List (ℕ × I)) → StartsWith a []
  starts_nothing a = (a, refl)

  pub starts_through : (a b c : List (ℕ × I)) → StartsWith a b → StartsWith b c → StartsWith a c
  starts_through a b c (r, is) (q, was) = (q ++ r, is ∙ ap (λ h. h ++ r) was ∙ append_assoc c q r)

  -- between a beginning and a history that adds nothing under a number, nothing is added either
  pub own_between : (log mid a : List (ℕ × I)) (c : ℕ) → StartsWith log mid → StartsWith mid a → own log c ≡ own a c → own mid c ≡ own a c
  own_between log mid a c (r, is) (q, was) same =
      let lower : own mid c ≡ own a c ++ own q c = ap (λ h. own h c) was ∙ own-append a q c in
      let upper : own log c ≡ own mid c ++ own r c = ap (λ h. own h c) is ∙ own-append mid r c in
      let whole : length (own a c) ≡ length (own mid c) + length (own r c) = ap length (sym same ∙ upper) ∙ length-append (own mid c) (own r c) in
      let part : length (own mid c) ≡ length (own a c) + length (own q c) = ap length lower ∙ length-append (own a c) (own q c) in
      lower ∙ ap (λ es. own a c ++ es) (no_more (own a c) (own q c) (omega (arith, length-append (own a c) (own q c)))) ∙ append-nil (own a c)

  shorter : (a b p q : List (ℕ × I)) → a ++ p ≡ b ++ q → length a ≤ length b → StartsWith b a
  shorter [] b p q same le = (b, refl)
  shorter (x ∷ a) [] p q same le = absurd (omega arith)
  shorter (x ∷ a) (y ∷ b) p q same le =
      let tails : a ++ p ≡ b ++ q = cc in
      let heads : x ≡ y = cc in
      let ih = shorter a b p q tails (omega arith) in
      (ih.0, λ i. sym heads i ∷ ih.1 i)

  -- of two beginnings of one history the shorter begins the longer
  pub starts_longer : (log a b : List (ℕ × I)) → StartsWith log a → StartsWith log b → length a ≤ length b → StartsWith b a
  starts_longer log a b (p, is) (q, was) le = shorter a b p q (sym is ∙ was) le

  abbrev pub IsLongerOf : List (ℕ × I) → List (ℕ × I) → List (ℕ × I) → List (ℕ × I) → Type 0
  IsLongerOf log a b l = StartsWith log l × StartsWith l a × StartsWith l b

  pub longer_is : (log a b : List (ℕ × I)) → StartsWith log a → StartsWith log b → IsLongerOf log a b (longer a b)
  longer_is log a b one other = by_cases (leb (length a) (length b)) refl
    where
      by_cases : (t : Bool) → leb (length a) (length b) ≡ t → IsLongerOf log a b (longer a b)
      by_cases true is = subst (λ t. IsLongerOf log a b (cond t b a)) (sym is) (other, starts_longer log a b one other (leb-true (length a) (length b) is), starts b)
      by_cases false is = let less = leb-false (length a) (length b) is in subst (λ t. IsLongerOf log a b (cond t b a)) (sym is) (one, starts a, starts_longer log b a other one (omega arith))

  -- what a view learns where it compares what it has seen with what it was told
  pub hears : (v : View I) (log : List (ℕ × I)) → GoesOn v log → StartsWith log v.told
      → StartsWith log (longer v.seen v.told) × GoesOn v (longer v.seen v.told) × StartsWith (longer v.seen v.told) v.told × ((c : ℕ) → Contains v.numbers c → own log c ≡ own (longer v.seen v.told) c)
  hears v log goes told =
      let l = longer_is log v.seen v.told goes.0 told in
      let mine : (c : ℕ) → Contains v.numbers c → own (longer v.seen v.told) c ≡ own v.seen c = λ c has. own_between log (longer v.seen v.told) v.seen c l.0 l.1 (goes.1 c has) in
      (l.0, (l.1, mine), l.2, λ c has. goes.1 c has ∙ sym (mine c has))
