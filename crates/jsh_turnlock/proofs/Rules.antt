-- What the rule of the lock's table tells, and the steps that change no more than what one seat has seen.
use Rattle.std.proofs.Common.{◌≡◌, ◌≢◌, ℕ, ◌+◌, ◌<◌, ◌≤◌, List, [], ◌∷◌, length, set, Option, Some, None, sym, ap, ◌∙◌, ⊎_elim, inl, inr, arith}
use Rattle.std.specs.List.{Contains, sum_by}
use mathlib.Core.Logic.{dite}
use mathlib.Core.Option.{some, none, some-injective}
use mathlib.Core.Option as maybe
use native.Mathlib.Decide.{ℕ_discrete}
use lib.ListN.{get_elem?}
use Rattle.atomic_table.specs.Table.{State}
use Rattle.atomic_table.proofs.Lists.{set_else}
use Rattle.jsh_turnlock.specs.declared.view.View.{View}
use Rattle.jsh_turnlock.specs.declared.view.Home.{Home}
use Rattle.jsh_turnlock.specs.Rule.{times, listed, or_zero, Fits, Held, Free, IsHome, IsKeptIn, Kept}
use Rattle.jsh_turnlock.proofs.Lists.{sum_two, sum_le, sum_same, each_set, at_set_here, times_here, times_some}

pub some_is : (a b : ℕ) → Some a ≡ Some b → a ≡ b
some_is a b e = ap or_zero e

module _ {T I : Type 0} (history : T → List (ℕ × I)) (numbers : T → ℕ) where
  abbrev pub St : Type 0
  St = State (Option (Home T)) (View I)

  abbrev pub Rule : St → Type 0
  Rule = Kept history numbers

  -- no two seats have one ticket
  pub one_ticket : (s : St) (r : Rule s) (i j : ℕ) (u v : View I) (k : ℕ) → i ≢ j → get_elem? s.views i ≡ some u → get_elem? s.views j ≡ some v → u.ticket ≡ Some k → v.ticket ≡ Some k → ⊥
  one_ticket s r i j u v k apart at there mine theirs =
      let inside = (r.each i u at).ticket k mine in
      let f : View I → ℕ = λ x. times k (listed x.ticket) in
      let one : f u ≡ times k (k ∷ []) = ap (λ o. times k (listed o)) mine in
      let other : f v ≡ times k (k ∷ []) = ap (λ o. times k (listed o)) theirs in
      let here : times k (k ∷ []) ≡ 1 + 0 = times_here k [] in
      let all : sum_by f s.views ≡ 1 = r.tickets k inside.0 inside.1 in
      let both : f u + f v ≤ sum_by f s.views = sum_two f s.views i j u v apart at there in
      absurd (omega arith)

  -- no two seats have one number
  pub one_owner : (s : St) (r : Rule s) (i j : ℕ) (u v : View I) (c : ℕ) → i ≢ j → get_elem? s.views i ≡ some u → get_elem? s.views j ≡ some v → Contains u.numbers c → Contains v.numbers c → ⊥
  one_owner s r i j u v c apart at there mine theirs =
      let f : View I → ℕ = λ x. times c x.numbers in
      let one : 0 < f u = times_some c u.numbers mine in
      let other : 0 < f v = times_some c v.numbers theirs in
      let all : sum_by f s.views ≡ 1 = r.owners c ((r.each i u at).numbers c mine) in
      let both : f u + f v ≤ sum_by f s.views = sum_two f s.views i j u v apart at there in
      absurd (omega arith)

  -- no seat but the holder has the turn
  pub one_holder : (s : St) (r : Rule s) (i j : ℕ) (u v : View I) (m n : ℕ) → i ≢ j → get_elem? s.views i ≡ some u → get_elem? s.views j ≡ some v → u.count ≡ Some m → v.count ≡ Some n → ⊥
  one_holder s r i j u v m n apart at there mine theirs =
      one_ticket s r i j u v r.serving apart at there ((r.each i u at).holds m mine).1 ((r.each j v there).holds n theirs).1

  -- fewer tickets are out than there are numbers
  pub few_wait : (s : St) (r : Rule s) → r.drawn < r.serving + 4294967296
  few_wait s r =
      let f : View I → ℕ = λ x. length (listed x.ticket) in
      let h : View I → ℕ = λ x. length x.numbers in
      let le : sum_by f s.views ≤ sum_by h s.views = sum_le f h s.views (λ i v at. (r.each i v at).waits) in
      let queue : r.serving + sum_by f s.views ≡ r.drawn = r.queue in
      let passes : sum_by h s.views ≡ r.made = r.passes in
      let few = r.few in
      omega arith

  -- a seat that neither takes nor leaves the turn
  pub slot_stays : (made : ℕ) (log : List (ℕ × I)) (views : List (View I)) (homes : List (maybe.Option (Option (Home T)))) (id : ℕ) (v w : View I)
      → get_elem? views id ≡ some v → w.count ≡ v.count → IsKeptIn history numbers made log views homes → IsKeptIn history numbers made log (set views id w) homes
  slot_stays made log views homes id v w at same kept =
      ⊎_elim
      (λ (h : (home : Home T) × (homes ≡ some (Some home) ∷ []) × IsHome history numbers made log home × Free views).
      inl (h.0, h.1, h.2, each_set (λ (u : View I). u.count ≡ None) views id w (same ∙ h.3 id v at) (λ j u apart there. h.3 j u there)))
      (λ (h : (homes ≡ none ∷ []) × Held views). inr (h.0, held h.1))
      kept
    where
      held : Held views → Held (set views id w)
      held h = dite (ℕ_discrete h.0 id)
          (λ e. let mine : h.1 ≡ v = some-injective h.1 v (sym h.3 ∙ ap (get_elem? views) e ∙ at) in
          (id, w, h.2, at_set_here views id v w at, same ∙ (sym (ap (λ (u : View I). u.count) mine) ∙ h.4)))
          (λ other. (h.0, h.1, h.2, set_else views id h.0 w other ∙ h.3, h.4))

  -- a seat that has seen more, or was told
  pub reviewed : (s : St) (r : Rule s) (id : ℕ) (v w : View I) (words : List ℕ) → get_elem? s.views id ≡ some v → words ≡ s.words → w.ticket ≡ v.ticket → w.numbers ≡ v.numbers → w.count ≡ v.count
      → Fits r.serving r.drawn r.made r.log w → Rule record { words = words; homes = s.homes; views = set s.views id w }
  reviewed s r id v w words at as_before ticket mine count fits = record {
    serving = r.serving;
    drawn = r.drawn;
    made = r.made;
    log = r.log;
    words = as_before ∙ r.words;
    tickets = λ k low high. sum_same (λ (x : View I). times k (listed x.ticket)) s.views id v w at (ap (λ o. times k (listed o)) ticket) ∙ r.tickets k low high;
    queue = ap (λ n. r.serving + n) (sum_same (λ (x : View I). length (listed x.ticket)) s.views id v w at (ap (λ o. length (listed o)) ticket)) ∙ r.queue;
    owners = λ c below. sum_same (λ (x : View I). times c x.numbers) s.views id v w at (ap (times c) mine) ∙ r.owners c below;
    passes = sum_same (λ (x : View I). length x.numbers) s.views id v w at (ap length mine) ∙ r.passes;
    few = r.few;
    later = r.later;
    each = each_set (Fits r.serving r.drawn r.made r.log) s.views id w fits (λ j u apart there. r.each j u there);
    slot = slot_stays r.made r.log s.views s.homes id v w at count r.slot;
  }
