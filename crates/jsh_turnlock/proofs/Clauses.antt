-- What the steps tell, as the calls' clauses say it.
use Rattle.std.proofs.Common.{◌≡◌, ℕ, ◌%◌, List, [], ◌∷◌, Option, Some, None, false, eqb, sym, ap, ◌∙◌, subst, eq-eqb}
use Rattle.std.specs.Prelude.{MatchBool}
use Rattle.std.specs.List.{Contains}
use Rattle.atomic_table.specs.Table.{Me}
use Rattle.jsh_turnlock.specs.declared.view.View.{View}
use Rattle.jsh_turnlock.specs.declared.view.Home.{Home}
use Rattle.jsh_turnlock.specs.History.{own}
use Rattle.jsh_turnlock.specs.Rule.{or_zero, but_first, holding, GoesOn}
use Rattle.jsh_turnlock.proofs.Lists.{contains_later}

-- the word is the seat's ticket, so the look has taken the value
pub looked : (found k : ℕ) (o : Option ℕ) (A B : Type 0) → found ≡ k % 18446744073709551616 → o ≡ Some k → MatchBool (eqb found (or_zero o % 18446744073709551616)) A B → A
looked found k o A B is has told =
    subst (λ b. MatchBool b A B) (eq-eqb found (or_zero o % 18446744073709551616) (is ∙ ap (λ x. or_zero x % 18446744073709551616) (sym has))) told

-- and where it isn't, nothing has changed
pub missed : (found k : ℕ) (o : Option ℕ) (A B : Type 0) → eqb found (k % 18446744073709551616) ≡ false → o ≡ Some k → MatchBool (eqb found (or_zero o % 18446744073709551616)) A B → B
missed found k o A B is has told =
    subst (λ b. MatchBool b A B) (ap (λ x. eqb found (or_zero x % 18446744073709551616)) has ∙ is) told

module _ {I : Type 0} where
  -- nothing is added under a number that was gathered
  pub goes_gathered : (v : View I) (history : List (ℕ × I)) (number : ℕ) → v.numbers ≡ number ∷ but_first v.numbers → GoesOn v history → (c : ℕ) → Contains (but_first v.numbers) c → own history c ≡ own v.seen c
  goes_gathered v history number is goes c has = goes.1 c (subst (λ ns. Contains ns c) (sym is) (contains_later c number (but_first v.numbers) has))

module _ {A : Type 0} where
  abbrev pub home_or : A → Option A → A
  home_or d None = d
  home_or d (Some x) = x

  abbrev value_or : Option A → List (ℕ × Option A) → Option A
  value_or d [] = d
  value_or d (x ∷ xs) = x.1

  -- the slot that was taken last has one value
  pub taken_is : (a b : Option A) {xs ys : List (ℕ × Option A)} {i j : ℕ} → ◌≡◌ {A = List (ℕ × Option A)} ((i, a) ∷ xs) ((j, b) ∷ ys) → a ≡ b
  taken_is a b e = ap (value_or a) e

module _ {I : Type 0} where
  abbrev pub rested : ℕ → View I → List (ℕ × I) → View I
  rested number v log = record { numbers = number ∷ but_first v.numbers; seen = log; told = []; ticket = None; count = None }

module _ {T I : Type 0} where
  -- a seat that held the turn, put the value back, counted it and passed on rests with its history
  pub given_back : (a b c d : Me (Option (Home T)) (View I)) (number made : ℕ) (log : List (ℕ × I)) (xs ys : List (ℕ × Option (Home T)))
      → a ≡ (holding number made a.0, xs) → b ≡ (a.0, ys) → c ≡ (record b.0 { seen = log }, b.1) → d ≡ (record c.0 { ticket = None; count = None }, []) → d ≡ (rested number a.0 log, [])
  given_back a b c d number made log xs ys held put counted passed =
      let before : b.0 ≡ holding number made a.0 = ap (λ (m : Me (Option (Home T)) (View I)). m.0) put ∙ ap (λ (m : Me (Option (Home T)) (View I)). m.0) held in
      let after : c.0 ≡ record (holding number made a.0) { seen = log } = ap (λ (m : Me (Option (Home T)) (View I)). m.0) counted ∙ ap (λ (v : View I). let w : View I = record v { seen = log } in w) before in
      passed ∙ ap (λ (v : View I). let w : View I = record v { ticket = None; count = None } in let none_out : List (ℕ × Option (Home T)) = [] in (w, none_out)) after
