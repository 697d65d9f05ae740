-- Where a scan from one place on finds the same thread as a search of all Ready threads.
use Rattle.std.proofs.Common.{◌≡◌, ℕ, zero, suc, ◌+◌, ◌<◌, ◌≤◌, ◌⊎◌, Bool, true, false, cond, nat_lt, List, [], ◌∷◌, length, drop, find, Option, None, Some, refl, sym, ◌∙◌, ap, arith, add-one, add-zero, drop-cons, slice_get, inl, inr, ◌↔◌, IsNone, slice_index_or}
use Rattle.std.specs.Option.{option_or}
use Rattle.std.proofs.lemmas.Bool.{cases_Bool, lt-ltb, le-ltb, eq-eqb, ne_eqb}
use Rattle.jsh_sched.specs.declared.ThreadState.{ThreadState}
use Rattle.jsh_sched.specs.ThreadState.{is_ready}
use Rattle.jsh_sched.specs.Pick.{is_main, next_after, other_threads, picked, ready_from, ready_threads}

-- the Ready threads other than the main one, where the first state is that of this thread
abbrev pub others_from : Option ℕ → ℕ → List ThreadState → List ℕ
others_from main first states = other_threads main (ready_from first states)

pub others_from-ready : (main : Option ℕ) (first : ℕ) (state : ThreadState) (states : List ThreadState) →
    is_ready state ≡ true → is_main main first ≡ false →
    others_from main first (state ∷ states) ≡ first ∷ others_from main (first + 1) states
others_from-ready main first state states ready other = rw ready (rw other refl)

pub others_from-waiting : (main : Option ℕ) (first : ℕ) (state : ThreadState) (states : List ThreadState) →
    is_ready state ≡ false →
    others_from main first (state ∷ states) ≡ others_from main (first + 1) states
others_from-waiting main first state states waiting = rw waiting refl

pub others_from-main : (main : Option ℕ) (first : ℕ) (state : ThreadState) (states : List ThreadState) →
    is_main main first ≡ true →
    others_from main first (state ∷ states) ≡ others_from main (first + 1) states
others_from-main main first state states same =
    elim (cases_Bool (is_ready state)) [
      | inl ready ↦ rw ready (rw same refl)
      | inr waiting ↦ rw waiting refl
    ]

-- the first state is passed over, or its thread is the first
others_from_cases : (main : Option ℕ) (first : ℕ) (state : ThreadState) (states : List ThreadState) →
    (others_from main first (state ∷ states) ≡ first ∷ others_from main (first + 1) states)
    ⊎ (others_from main first (state ∷ states) ≡ others_from main (first + 1) states)
others_from_cases main first state states =
    elim (cases_Bool (is_main main first)) [
      | inl same ↦ inr (others_from-main main first state states same)
      | inr other ↦ elim (cases_Bool (is_ready state)) [
        | inl ready ↦ inl (others_from-ready main first state states ready other)
        | inr waiting ↦ inr (others_from-waiting main first state states waiting)
      ]
    ]

-- each thread that is numbered from above the cursor on is above it
find_all_above : (main : Option ℕ) (states : List ThreadState) (cursor first : ℕ) → cursor < first →
    find (λ thread. nat_lt cursor thread) (others_from main first states) ≡ slice_get (others_from main first states) 0
find_all_above main [] cursor first above = refl
find_all_above main (state ∷ states) cursor first above =
    elim (others_from_cases main first state states) [
      | inl kept ↦ rw kept (rw (lt-ltb cursor first above) refl)
      | inr over ↦ rw over (find_all_above main states cursor (first + 1) (omega arith))
    ]

pub first_of_others : (main : Option ℕ) (states : List ThreadState) →
    find (λ thread. nat_lt 0 thread) (others_from main 1 states) ≡ slice_get (others_from main 1 states) 0
first_of_others main states = find_all_above main states 0 1 (omega arith)

-- the first above the cursor is the first from the cursor's place on
pub find_above : (main : Option ℕ) (states : List ThreadState) (before count cursor : ℕ) → cursor ≡ before + count →
    find (λ thread. nat_lt cursor thread) (others_from main (before + 1) states)
    ≡ slice_get (others_from main (cursor + 1) (drop count states)) 0
find_above main states before zero cursor is =
    rw (is, add-zero) (find_all_above main states before (before + 1) (omega arith))
find_above main [] before (suc count) cursor is = refl
find_above main (state ∷ states) before (suc count) cursor is =
    let rest : find (λ thread. nat_lt cursor thread) (others_from main (before + 1 + 1) states)
    ≡ slice_get (others_from main (cursor + 1) (drop count states)) 0 =
    find_above main states (before + 1) count cursor (omega arith) in
    elim (others_from_cases main (before + 1) state states) [
      | inl kept ↦ rw kept (rw (le-ltb cursor (before + 1) (omega arith)) rest)
      | inr over ↦ rw over rest
    ]

-- what the scan sees at a place
module _ (main : Option ℕ) (states : List ThreadState) (place : ℕ) (state : ThreadState)
    (within : place < length states) (here : state ≡ slice_index_or states place state) where
  seen : drop place states ≡ state ∷ drop (place + 1) states
  seen = rw add-one (drop-cons states place state within ∙ ap (λ found. found ∷ drop (suc place) states) (sym here))

  pub scan_found : is_ready state ≡ true → is_main main (place + 1) ≡ false →
      slice_get (others_from main (place + 1) (drop place states)) 0 ≡ Some (place + 1)
  scan_found ready other =
      ap (λ rest. slice_get (others_from main (place + 1) rest) 0) seen
      ∙ ap (λ threads. slice_get threads 0) (others_from-ready main (place + 1) state (drop (place + 1) states) ready other)

  pub scan_waiting : is_ready state ≡ false →
      slice_get (others_from main (place + 1) (drop place states)) 0
      ≡ slice_get (others_from main (place + 1 + 1) (drop (place + 1) states)) 0
  scan_waiting waiting =
      ap (λ rest. slice_get (others_from main (place + 1) rest) 0) seen
      ∙ ap (λ threads. slice_get threads 0) (others_from-waiting main (place + 1) state (drop (place + 1) states) waiting)

  pub scan_main : is_main main (place + 1) ≡ true →
      slice_get (others_from main (place + 1) (drop place states)) 0
      ≡ slice_get (others_from main (place + 1 + 1) (drop (place + 1) states)) 0
  scan_main same =
      ap (λ rest. slice_get (others_from main (place + 1) rest) 0) seen
      ∙ ap (λ threads. slice_get threads 0) (others_from-main main (place + 1) state (drop (place + 1) states) same)

-- the search for the main thread

pub find_main_below : (states : List ThreadState) (first thread : ℕ) → thread < first →
    find (is_main (Some thread)) (ready_from first states) ≡ None
find_main_below [] first thread below = refl
find_main_below (state ∷ states) first thread below =
    let rest : find (is_main (Some thread)) (ready_from (first + 1) states) ≡ None = find_main_below states (first + 1) thread (omega arith) in
    elim (cases_Bool (is_ready state)) [
      | inl ready ↦ rw ready (rw (ne_eqb first thread (omega arith)) rest)
      | inr waiting ↦ rw waiting rest
    ]

pub find_no_main : (threads : List ℕ) → find (is_main None) threads ≡ None
find_no_main [] = refl
find_no_main (thread ∷ threads) = find_no_main threads

pub find_main_past : (states : List ThreadState) (first thread : ℕ) → first + length states ≤ thread →
    find (is_main (Some thread)) (ready_from first states) ≡ None
find_main_past [] first thread past = refl
find_main_past (state ∷ states) first thread past =
    let rest : find (is_main (Some thread)) (ready_from (first + 1) states) ≡ None = find_main_past states (first + 1) thread (omega arith) in
    elim (cases_Bool (is_ready state)) [
      | inl ready ↦ rw ready (rw (ne_eqb first thread (omega arith)) rest)
      | inr waiting ↦ rw waiting rest
    ]

pub find_main_at : (states : List ThreadState) (first place thread : ℕ) (default : ThreadState) → thread ≡ first + place → place < length states →
    find (is_main (Some thread)) (ready_from first states) ≡ cond (is_ready (slice_index_or states place default)) (Some thread) None
find_main_at [] first place thread default is within = absurd (omega arith)
find_main_at (state ∷ states) first zero thread default is within =
    elim (cases_Bool (is_ready state)) [
      | inl ready ↦ rw (ready, eq-eqb first thread (omega arith)) (ap Some (omega arith))
      | inr waiting ↦ rw waiting (find_main_below states (first + 1) thread (omega arith))
    ]
find_main_at (state ∷ states) first (suc place) thread default is within =
    let rest : find (is_main (Some thread)) (ready_from (first + 1) states) ≡ cond (is_ready (slice_index_or states place default)) (Some thread) None =
    find_main_at states (first + 1) place thread default (omega arith) (omega arith) in
    elim (cases_Bool (is_ready state)) [
      | inl ready ↦ rw ready (rw (ne_eqb first thread (omega arith)) rest)
      | inr waiting ↦ rw waiting rest
    ]

pub next_after-round : (cursor : ℕ) (threads : List ℕ) → find (λ thread. nat_lt cursor thread) threads ≡ None →
    next_after cursor threads ≡ slice_get threads 0
next_after-round cursor threads none = rw none refl

some_behind : (first second : Option ℕ) (thread : ℕ) {list : List ℕ} {head : ℕ} →
    IsNone (option_or first (option_or second (Some thread))) ↔ (head ∷ list ≡ [])
some_behind (Some first) second thread = (λ none. cc, λ empty. cc)
some_behind None (Some second) thread = (λ none. cc, λ empty. cc)
some_behind None None thread = (λ none. cc, λ empty. cc)

some_between : (first second third : Option ℕ) (thread : ℕ) {list : List ℕ} {head : ℕ} →
    IsNone (option_or first (option_or (option_or second (Some thread)) third)) ↔ (head ∷ list ≡ [])
some_between (Some first) second third thread = (λ none. cc, λ empty. cc)
some_between None (Some second) third thread = (λ none. cc, λ empty. cc)
some_between None None third thread = (λ none. cc, λ empty. cc)

-- no thread is picked exactly where none is Ready
pub picked-is_none : (states : List ThreadState) (cursor : ℕ) (main : Option ℕ) (main_first : Bool) →
    IsNone (picked states cursor main main_first) ↔ (ready_threads states ≡ [])
picked-is_none states cursor main main_first = chosen (ready_threads states) main_first
  where
    chosen : (ready : List ℕ) (main_first : Bool) →
        IsNone (option_or (cond main_first (find (is_main main) ready) None) (option_or (next_after cursor (other_threads main ready)) (find (is_main main) ready)))
        ↔ (ready ≡ [])
    chosen [] true = (λ none. refl, λ empty. refl)
    chosen [] false = (λ none. refl, λ empty. refl)
    chosen (thread ∷ ready) main_first =
        elim (cases_Bool (is_main main thread)) [
          | inl same ↦ rw same (some_behind (cond main_first (Some thread) None) (next_after cursor (other_threads main ready)) thread)
          | inr other ↦ rw other (some_between
              (cond main_first (find (is_main main) ready) None)
              (cond (nat_lt cursor thread) (Some thread) (find (λ thread. nat_lt cursor thread) (other_threads main ready)))
              (find (is_main main) ready) thread)
        ]
