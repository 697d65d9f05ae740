-- Marking places keeps what a search keeps.
use Rattle.std.proofs.Common.{◌≡◌, ℕ, ◌+◌, ◌<◌, ◌≤◌, Bool, true, false, cond, not, ◌||◌, ◌&&◌, ◌⊎◌, inl, inr, List, [], ◌∷◌, ◌++◌, length, get_or, refl, sym, ◌∙◌, ap, arith, length-append}
use Rattle.std.proofs.Math.ListN.{set, length-set}
use Rattle.std.proofs.lemmas.Bool.{or_cases, or_left, or_right, and_from, cases_Bool, cases_eq, both_ways, lt-ltb, le-ltb, eqb-true, eq-eqb, ne_eqb}
use Rattle.std.proofs.lemmas.List.{get_or-set_same, get_or-set_other, get_or_past}
use Rattle.std.proofs.lemmas.List.Folds.{list_any-append}
use Rattle.std.proofs.lemmas.List.Sums.{sum_by-set}
use Rattle.std.specs.List.{count_by}
use Rattle.std.specs.Prelude.{nat_eq, nat_lt}
use Rattle.jsh_closure.specs.Closure.{is_among}
use Rattle.jsh_closure.specs.Searches.{Adds}

or_none : (b c : Bool) → b ≡ (b || (c && false))
or_none true true = refl
or_none true false = refl
or_none false true = refl
or_none false false = refl

or_and : (a l b c : Bool) → ((a || (l && b)) || (l && c)) ≡ (a || (l && (b || c)))
or_and true l b c = refl
or_and false true b c = refl
or_and false false b c = refl

pub adds_none : (marks : List Bool) (waiting : List ℕ) → Adds [] marks waiting marks waiting
adds_none marks waiting = record {
  size = refl;
  marked = λ i. or_none (get_or marks i false) (nat_lt i (length marks));
  kept = λ i held. held;
  added = λ i held_now new_here. absurd (both_ways _ new_here held_now);
  wait_marked = λ i held. inl held;
  left = refl;
}

among_more : (places : List ℕ) (place i : ℕ) → is_among (places ++ place ∷ []) i ≡ (is_among places i || is_among (place ∷ []) i)
among_more places place i = list_any-append (nat_eq i) places (place ∷ [])

pub adds_more : (places : List ℕ) (place : ℕ) (m0 : List Bool) (w0 : List ℕ) (m1 : List Bool) (w1 : List ℕ) (m2 : List Bool) (w2 : List ℕ)
    → Adds places m0 w0 m1 w1 → Adds (place ∷ []) m1 w1 m2 w2 → Adds (places ++ place ∷ []) m0 w0 m2 w2
adds_more places place m0 w0 m1 w1 m2 w2 a b = record {
  size = b.size ∙ a.size;
  marked = λ i.
      b.marked i
      ∙ ap (λ (n : ℕ). get_or m1 i false || (nat_lt i n && is_among (place ∷ []) i)) a.size
      ∙ ap (λ (x : Bool). x || (nat_lt i (length m0) && is_among (place ∷ []) i)) (a.marked i)
      ∙ or_and (get_or m0 i false) (nat_lt i (length m0)) (is_among places i) (is_among (place ∷ []) i)
      ∙ ap (λ (x : Bool). get_or m0 i false || (nat_lt i (length m0) && x)) (sym (among_more places place i));
  kept = λ i held. b.kept i (a.kept i held);
  added = λ i held_now new_here. added i held_now new_here (cases_Bool (get_or m1 i false));
  wait_marked = λ i held. waits i (b.wait_marked i held);
  left = b.left ∙ a.left;
}
  where
    added : (i : ℕ) → get_or m2 i false ≡ true → get_or m0 i false ≡ false → (get_or m1 i false ≡ true) ⊎ (get_or m1 i false ≡ false) → is_among w2 i ≡ true
    added i held_now new_here (inl old) = b.kept i (a.added i old new_here)
    added i held_now new_here (inr new) = b.added i held_now new

    still : (i : ℕ) → get_or m1 i false ≡ true → get_or m2 i false ≡ true
    still i held = b.marked i ∙ or_left (get_or m1 i false) (nat_lt i (length m1) && is_among (place ∷ []) i) held

    waits_before : (i : ℕ) → (is_among w0 i ≡ true) ⊎ (get_or m1 i false ≡ true) → (is_among w0 i ≡ true) ⊎ (get_or m2 i false ≡ true)
    waits_before i (inl held) = inl held
    waits_before i (inr held) = inr (still i held)

    waits : (i : ℕ) → (is_among w1 i ≡ true) ⊎ (get_or m2 i false ≡ true) → (is_among w0 i ≡ true) ⊎ (get_or m2 i false ≡ true)
    waits i (inl held) = waits_before i (a.wait_marked i held)
    waits i (inr held) = inr held

one_among : (place i : ℕ) → i ≡ place → is_among (place ∷ []) i ≡ true
one_among place i same = or_left (nat_eq i place) false (eq-eqb i place same)

none_among : (place i : ℕ) → (i ≡ place → ⊥) → is_among (place ∷ []) i ≡ false
none_among place i apart = rw (ne_eqb i place apart) refl

is_one : (place i : ℕ) → is_among (place ∷ []) i ≡ true → i ≡ place
is_one place i held = at (or_cases (nat_eq i place) false held)
  where
    at : (nat_eq i place ≡ true) ⊎ (false ≡ true) → i ≡ place
    at (inl same) = eqb-true i place same
    at (inr never) = absurd (cc never)

pub adds_new : (place : ℕ) (marks : List Bool) (waiting : List ℕ) → place < length marks → get_or marks place false ≡ false
    → Adds (place ∷ []) marks waiting (set marks place true) (waiting ++ place ∷ [])
adds_new place marks waiting below new = record {
  size = length-set marks place true;
  marked = λ i. marked i (cases_eq i place);
  kept = λ i held. among_more waiting place i ∙ or_left (is_among waiting i) (is_among (place ∷ []) i) held;
  added = λ i held_now new_here. added i held_now new_here (cases_eq i place);
  wait_marked = λ i held. waits i (or_cases (is_among waiting i) (is_among (place ∷ []) i) (sym (among_more waiting place i) ∙ held));
  left = left;
}
  where
    marked : (i : ℕ) → (i ≡ place) ⊎ (i ≡ place → ⊥) → get_or (set marks place true) i false ≡ (get_or marks i false || (nat_lt i (length marks) && is_among (place ∷ []) i))
    marked i (inl same) =
        ap (λ (k : ℕ). get_or (set marks place true) k false) same
        ∙ get_or-set_same marks place true false below
        ∙ sym (or_right (get_or marks i false) (nat_lt i (length marks) && is_among (place ∷ []) i)
        (and_from (nat_lt i (length marks)) (is_among (place ∷ []) i) (lt-ltb i (length marks) (omega arith)) (one_among place i same)))
    marked i (inr apart) =
        get_or-set_other marks place i true false apart
        ∙ or_none (get_or marks i false) (nat_lt i (length marks))
        ∙ ap (λ (x : Bool). get_or marks i false || (nat_lt i (length marks) && x)) (sym (none_among place i apart))

    added : (i : ℕ) → get_or (set marks place true) i false ≡ true → get_or marks i false ≡ false → (i ≡ place) ⊎ (i ≡ place → ⊥) → is_among (waiting ++ place ∷ []) i ≡ true
    added i held_now new_here (inl same) = among_more waiting place i ∙ or_right (is_among waiting i) (is_among (place ∷ []) i) (one_among place i same)
    added i held_now new_here (inr apart) = absurd (both_ways _ new_here (sym (get_or-set_other marks place i true false apart) ∙ held_now))

    waits : (i : ℕ) → (is_among waiting i ≡ true) ⊎ (is_among (place ∷ []) i ≡ true) → (is_among waiting i ≡ true) ⊎ (get_or (set marks place true) i false ≡ true)
    waits i (inl held) = inl held
    waits i (inr here) = inr (ap (λ (k : ℕ). get_or (set marks place true) k false) (is_one place i here) ∙ get_or-set_same marks place true false below)

    left : length (waiting ++ place ∷ []) + count_by not (set marks place true) ≡ length waiting + count_by not marks
    left = omega (arith, length-append waiting (place ∷ []), rw new at (sum_by-set (λ (x : Bool). cond (not x) 1 0) marks place true false below))

pub adds_old : (place : ℕ) (marks : List Bool) (waiting : List ℕ) → (length marks ≤ place) ⊎ (get_or marks place false ≡ true) → Adds (place ∷ []) marks waiting marks waiting
adds_old place marks waiting old = record {
  size = refl;
  marked = λ i. marked i (cases_eq i place) old;
  kept = λ i held. held;
  added = λ i held_now new_here. absurd (both_ways _ new_here held_now);
  wait_marked = λ i held. inl held;
  left = refl;
}
  where
    apart_same : (i : ℕ) → is_among (place ∷ []) i ≡ false → get_or marks i false ≡ (get_or marks i false || (nat_lt i (length marks) && is_among (place ∷ []) i))
    apart_same i apart = or_none (get_or marks i false) (nat_lt i (length marks)) ∙ ap (λ (x : Bool). get_or marks i false || (nat_lt i (length marks) && x)) (sym apart)

    past_same : (b c d : Bool) → b ≡ false → c ≡ false → b ≡ (b || (c && d))
    past_same true c d p q = absurd (cc)
    past_same false true d p q = absurd (cc)
    past_same false false d p q = refl

    held_same : (b c : Bool) → b ≡ true → b ≡ (b || c)
    held_same true c p = refl
    held_same false c p = absurd (cc)

    marked : (i : ℕ) → (i ≡ place) ⊎ (i ≡ place → ⊥) → (length marks ≤ place) ⊎ (get_or marks place false ≡ true) → get_or marks i false ≡ (get_or marks i false || (nat_lt i (length marks) && is_among (place ∷ []) i))
    marked i (inl same) (inl past) = past_same (get_or marks i false) (nat_lt i (length marks)) (is_among (place ∷ []) i) (get_or_past marks i false (omega arith)) (le-ltb i (length marks) (omega arith))
    marked i (inl same) (inr held) = held_same (get_or marks i false) (nat_lt i (length marks) && is_among (place ∷ []) i) (ap (λ (k : ℕ). get_or marks k false) same ∙ held)
    marked i (inr apart) _ = apart_same i (none_among place i apart)
