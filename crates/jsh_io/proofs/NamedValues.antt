-- What is taken out of a list of values by name, from its end on.
use Rattle.std.proofs.Common.{◌≡◌, ℕ, suc, ◌+◌, ◌≤◌, true, false, List, [], ◌∷◌, ◌++◌, length, take, drop, get_or, refl, ap, sym, ◌∙◌, arith, append_assoc}
use Rattle.std.specs.Prelude.{Option, Some}
use Rattle.std.specs.List.{remove}
use Rattle.std.proofs.Math.ListN.{get_or-append}
use Rattle.std.proofs.Math.Seq.{drop-cons, take-suc}
use Rattle.std.proofs.lemmas.List.{get_or-take, get_or_default, length-take-le}
use Rattle.jsh_io.specs.Named.{is_named, first_named, others_named}
use Rattle.jsh_io.specs.declared.named.Named.{Named}

-- the element between two lists is removed
remove-between : {A : Type 0} (front : List A) (x : A) (back : List A) → remove (front ++ x ∷ back) (length front) ≡ front ++ back
remove-between [] x back = refl
remove-between (y ∷ front) x back = ap (λ l. y ∷ l) (remove-between front x back)

-- the list from an index on is the element there and then the others
drop-at : {A : Type 0} (xs : List A) (i at : ℕ) (x : A) → at ≡ i + 1 → at ≤ length xs → x ≡ get_or xs i x → drop i xs ≡ x ∷ drop at xs
drop-at xs i at x next within here =
    let step : drop i xs ≡ get_or xs i x ∷ drop (suc i) xs = drop-cons xs i x (omega arith) in
    let after : at ≡ suc i = omega arith in
    cc

take-at : {A : Type 0} (xs : List A) (i at : ℕ) (x : A) → at ≡ i + 1 → at ≤ length xs → x ≡ get_or xs i x → take at xs ≡ take i xs ++ x ∷ []
take-at xs i at x next within here =
    let step : take (suc i) xs ≡ take i xs ++ (get_or xs i x ∷ []) = take-suc xs i x (omega arith) in
    let after : at ≡ suc i = omega arith in
    cc

-- the element is the same in a list that begins alike
same-at : {A : Type 0} (xs items back : List A) (i at : ℕ) (x : A) → at ≡ i + 1 → at ≤ length xs → items ≡ take at xs ++ back → x ≡ get_or items i x → x ≡ get_or xs i x
same-at xs items back i at x next within begins here =
    here ∙ ap (λ l. get_or l i x) begins
    ∙ get_or-append (take at xs) back x i (omega (arith, length-take-le at xs within))
    ∙ get_or-take at xs i x (omega arith)

-- one more value is looked at, which has the name
pub record Taken {T : Type 0} (name : List ℕ) (xs items : List (Named T)) (first : Option T) (at : ℕ) : Type 0 where
  pub first_is : first ≡ first_named name (drop at xs)
  pub items_are : items ≡ take at xs ++ others_named name (drop at xs)

pub taken-named : {T : Type 0} (name : List ℕ) (xs items : List (Named T)) (i at : ℕ) (x y : Named T)
    → at ≡ i + 1 → at ≤ length xs → items ≡ take at xs ++ others_named name (drop at xs)
    → x ≡ get_or items i x → y ≡ get_or items i y → is_named name y ≡ true → Taken name xs (remove items i) (Some x.value) i
taken-named name xs items i at x y next within begins here looked found =
    let at_i = same-at xs items (others_named name (drop at xs)) i at x next within begins here in
    let at_y = same-at xs items (others_named name (drop at xs)) i at y next within begins looked in
    let same : y ≡ x = at_y ∙ get_or_default xs i y x (omega arith) ∙ sym at_i in
    let matches : is_named name x ≡ true = ap (is_named name) (sym same) ∙ found in
    let rest = drop-at xs i at x next within at_i in
    let front = take-at xs i at x next within at_i in
    let size : length (take i xs) ≡ i = length-take-le i xs (omega arith) in
    let others : others_named name (drop i xs) ≡ others_named name (drop at xs) = rw rest (rw matches refl) in
    record {
      first_is = rw rest (rw matches refl);
      items_are =
          ap (λ l. remove l i) (begins ∙ ap (λ l. l ++ others_named name (drop at xs)) front ∙ append_assoc (take i xs) (x ∷ []) (others_named name (drop at xs)))
          ∙ ap (λ n. remove (take i xs ++ x ∷ others_named name (drop at xs)) n) (sym size)
          ∙ remove-between (take i xs) x (others_named name (drop at xs))
          ∙ ap (λ l. take i xs ++ l) (sym others);
    }

-- one more value is looked at, which has another name
pub kept-named : {T : Type 0} (name : List ℕ) (xs items : List (Named T)) (first : Option T) (i at : ℕ) (x : Named T)
    → at ≡ i + 1 → at ≤ length xs → items ≡ take at xs ++ others_named name (drop at xs) → first ≡ first_named name (drop at xs)
    → x ≡ get_or items i x → is_named name x ≡ false → Taken name xs items first i
kept-named name xs items first i at x next within begins before here differs =
    let at_i = same-at xs items (others_named name (drop at xs)) i at x next within begins here in
    let rest = drop-at xs i at x next within at_i in
    let front = take-at xs i at x next within at_i in
    let others : others_named name (drop i xs) ≡ x ∷ others_named name (drop at xs) = rw rest (rw differs refl) in
    record {
      first_is = before ∙ sym (rw rest (rw differs refl));
      items_are =
          begins ∙ ap (λ l. l ++ others_named name (drop at xs)) front
          ∙ append_assoc (take i xs) (x ∷ []) (others_named name (drop at xs))
          ∙ ap (λ l. take i xs ++ l) (sym others);
    }
