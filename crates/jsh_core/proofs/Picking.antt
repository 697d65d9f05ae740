-- A thread is picked exactly where some thread can go on, and it can.
use Rattle.std.proofs.Common.{◌≡◌, ◌↔◌, ◌⊎◌, inl, inr, IsNone, ℕ, zero, suc, ◌+◌, ◌-◌, ◌<◌, ◌==◌, Bool, true, false, List, [], ◌∷◌, Option, Some, None, length, refl, ap, sym, ◌∙◌, subst, arith, cond, get_or, find, nat_lt, not, add-zero}
use Rattle.std.specs.Prelude.{◌||◌}
use Rattle.std.specs.List.{All, list_any, slice_get}
use Rattle.std.specs.Option.{option_map_or, option_or}
use Rattle.std.proofs.lemmas.Bool.{eqb-true}
use Rattle.std.proofs.lemmas.List.Elements.{All-cons, All-filter, All-head, All-nil, All-tail, All-weaker}
use Rattle.std.proofs.lemmas.Option.{slice_get_within, get_or_from_slice_get}
use Rattle.jsh_sched.specs.declared.ThreadState.{ThreadState}
use Rattle.jsh_sched.specs.declared.ThreadState.TheVariants as thread_state
use Rattle.jsh_sched.specs.ThreadState.{is_ready}
use Rattle.jsh_sched.specs.Pick.{picked, next_after, other_threads, ready_from, ready_threads, is_main}
use Rattle.jsh_sched.proofs.ReadyThreads.{find_main_at, picked-is_none}
use Rattle.jsh_core.specs.State.{State, World, numbered}
use Rattle.jsh_core.specs.Threads.{can_go_on}
use Rattle.jsh_core.specs.Causes.{SomeGoesOn}
use Rattle.jsh_core.proofs.ListLemmas.{numbered-place, numbered-positive}

-- a ready main thread that goes first is picked
pub picked-main : (states : List ThreadState) (cursor main : ℕ) → numbered states main ≡ Some thread_state.Ready →
    picked states cursor (Some main) true ≡ Some main
picked-main states cursor main there =
    let place : slice_get states (main - 1) ≡ Some thread_state.Ready = numbered-place states main thread_state.Ready there in
    let within : main - 1 < length states = slice_get_within states (main - 1) thread_state.Ready place in
    let state : get_or states (main - 1) thread_state.Ready ≡ thread_state.Ready = get_or_from_slice_get states (main - 1) thread_state.Ready thread_state.Ready place in
    let some : 0 < main = numbered-positive states main thread_state.Ready there in
    let e : main ≡ 1 + (main - 1) = omega arith in
    let found : find (is_main (Some main)) (ready_threads states) ≡ Some main = find_main_at states 1 (main - 1) main thread_state.Ready e within ∙ rw state refl in
    rw found refl

-- the thread with this number is ready, where the first state is that of this thread
abbrev IsReadyFrom : ℕ → List ThreadState → ℕ → Type 0
IsReadyFrom first states thread = (place : ℕ) × ((state : ThreadState) × (thread ≡ first + place) × (slice_get states place ≡ Some state) × (is_ready state ≡ true))

ready_later : (first : ℕ) (state : ThreadState) (states : List ThreadState) (threads : List ℕ) → All (IsReadyFrom (first + 1) states) threads →
    All (IsReadyFrom first (state ∷ states)) threads
ready_later first state states threads all = All-weaker (IsReadyFrom (first + 1) states) (IsReadyFrom first (state ∷ states)) one threads all
  where
    one : (thread : ℕ) → IsReadyFrom (first + 1) states thread → IsReadyFrom first (state ∷ states) thread
    one thread (place, (found, is, at, ready)) = (suc place, (found, omega arith, at, ready))

-- each ready thread is one
all_ready : (first : ℕ) (states : List ThreadState) → All (IsReadyFrom first states) (ready_from first states)
all_ready first [] = All-nil (IsReadyFrom first [])
all_ready first (state ∷ states) = from (is_ready state) refl (ready_later first state states (ready_from (first + 1) states) (all_ready (first + 1) states))
  where
    from : (ready : Bool) → is_ready state ≡ ready → All (IsReadyFrom first (state ∷ states)) (ready_from (first + 1) states) →
        All (IsReadyFrom first (state ∷ states)) (ready_from first (state ∷ states))
    from true e rest = rw e (All-cons (IsReadyFrom first (state ∷ states)) first (ready_from (first + 1) states) (zero, (state, sym (add-zero first), refl, e)) rest)
    from false e rest = rw e rest

All-found : (P : ℕ → Type 0) (test : ℕ → Bool) (xs : List ℕ) (x : ℕ) → All P xs → find test xs ≡ Some x → P x
All-found P test [] x all is = cc
All-found P test (y ∷ ys) x all is = from (test y) (λ e. All-found P test ys x (All-tail P y ys all) e) is
  where
    from : (passes : Bool) → (find test ys ≡ Some x → P x) → cond passes (Some y) (find test ys) ≡ Some x → P x
    from true rest e = let same : y ≡ x = cc in subst P same (All-head P y ys all)
    from false rest e = rest e

All-first : (P : ℕ → Type 0) (xs : List ℕ) (x : ℕ) → All P xs → slice_get xs 0 ≡ Some x → P x
All-first P [] x all is = cc
All-first P (y ∷ ys) x all is = let same : y ≡ x = cc in subst P same (All-head P y ys all)

either : {A : Type 0} (first second : Option A) (x : A) → option_or first second ≡ Some x → (first ≡ Some x) ⊎ (second ≡ Some x)
either (Some y) second x is = inl is
either None second x is = inr is

All-picked : (P : ℕ → Type 0) (ready : List ℕ) (cursor : ℕ) (main : Option ℕ) (first : Bool) (x : ℕ) → All P ready →
    option_or (cond first (find (is_main main) ready) None) (option_or (next_after cursor (other_threads main ready)) (find (is_main main) ready)) ≡ Some x → P x
All-picked P ready cursor main first x all is = from (either (cond first (find (is_main main) ready) None) _ x is)
  where
    others : All P (other_threads main ready)
    others = All-filter (λ thread. not (is_main main thread)) P ready all

    by_first : (first : Bool) → cond first (find (is_main main) ready) None ≡ Some x → P x
    by_first true e = All-found P (is_main main) ready x all e
    by_first false e = cc

    round : (find (λ thread. nat_lt cursor thread) (other_threads main ready) ≡ Some x) ⊎ (slice_get (other_threads main ready) 0 ≡ Some x) → P x
    round (inl e) = All-found P (λ thread. nat_lt cursor thread) (other_threads main ready) x others e
    round (inr e) = All-first P (other_threads main ready) x others e

    then : (next_after cursor (other_threads main ready) ≡ Some x) ⊎ (find (is_main main) ready ≡ Some x) → P x
    then (inl e) = round (either (find (λ thread. nat_lt cursor thread) (other_threads main ready)) (slice_get (other_threads main ready) 0) x e)
    then (inr e) = All-found P (is_main main) ready x all e

    from : (cond first (find (is_main main) ready) None ≡ Some x) ⊎ (option_or (next_after cursor (other_threads main ready)) (find (is_main main) ready) ≡ Some x) → P x
    from (inl e) = by_first first e
    from (inr e) = then (either (next_after cursor (other_threads main ready)) (find (is_main main) ready) x e)

-- the item at a place has the next number
pub numbered-of_place : {A : Type 0} (items : List A) (place : ℕ) (item : A) → slice_get items place ≡ Some item → numbered items (1 + place) ≡ Some item
numbered-of_place items place item is = from (1 + place == 0) refl
  where
    from : (first : Bool) → (1 + place == 0) ≡ first → cond first None (slice_get items (1 + place - 1)) ≡ Some item
    from true e = let none : 1 + place ≡ 0 = eqb-true (1 + place) 0 e in absurd (omega arith)
    from false e = let same : 1 + place - 1 ≡ place = omega arith in ap (slice_get items) same ∙ is

ready_from-goes : (states : List ThreadState) (thread : ℕ) → IsReadyFrom 1 states thread → option_map_or is_ready (numbered states thread) false ≡ true
ready_from-goes states thread (place, (state, is, at, ready)) =
    ap (λ n. option_map_or is_ready (numbered states n) false) is ∙ ap (λ (found : Option ThreadState). option_map_or is_ready found false) (numbered-of_place states place state at) ∙ ready

-- a thread that is picked can go on
pub picked-goes : (w : World) (cursor : ℕ) (main : Option ℕ) (first : Bool) (thread : ℕ) → picked w.states cursor main first ≡ Some thread → can_go_on w thread ≡ true
picked-goes w cursor main first thread is =
    ready_from-goes w.states thread (All-picked (IsReadyFrom 1 w.states) (ready_threads w.states) cursor main first thread (all_ready 1 w.states) is)

-- some thread is ready exactly where one can go on

any_place : (states : List ThreadState) → list_any is_ready states ≡ true → (place : ℕ) × ((state : ThreadState) × (slice_get states place ≡ Some state) × (is_ready state ≡ true))
any_place [] e = cc
any_place (state ∷ states) e = from (is_ready state) refl e (λ rest. any_place states rest)
  where
    from : (ready : Bool) → is_ready state ≡ ready → (ready || list_any is_ready states) ≡ true →
        (list_any is_ready states ≡ true → (place : ℕ) × ((found : ThreadState) × (slice_get states place ≡ Some found) × (is_ready found ≡ true))) →
        (place : ℕ) × ((found : ThreadState) × (slice_get (state ∷ states) place ≡ Some found) × (is_ready found ≡ true))
    from true is e rest = (zero, (state, refl, is))
    from false is e rest = let later = rest e in (suc later.0, (later.1.0, later.1.1, later.1.2))

place_any : (states : List ThreadState) (place : ℕ) (state : ThreadState) → slice_get states place ≡ Some state → is_ready state ≡ true → list_any is_ready states ≡ true
place_any [] place state is ready = cc
place_any (x ∷ states) zero state is ready = let same : x ≡ state = cc in rw (same, ready) refl
place_any (x ∷ states) (suc place) state is ready = from (is_ready x) (place_any states place state is ready)
  where
    from : (b : Bool) → list_any is_ready states ≡ true → (b || list_any is_ready states) ≡ true
    from true e = refl
    from false e = e

pub some-goes : (w : World) → (list_any is_ready w.states ≡ true) ↔ SomeGoesOn w
some-goes w = (
  λ e. (let place = any_place w.states e in (1 + place.0, ready_from-goes w.states (1 + place.0) (place.0, (place.1.0, refl, place.1.1, place.1.2)))),
  λ goes. back goes.0 (numbered w.states goes.0) refl goes.1,
)
  where
    back : (thread : ℕ) (found : Option ThreadState) → numbered w.states thread ≡ found → option_map_or is_ready (numbered w.states thread) false ≡ true → list_any is_ready w.states ≡ true
    back thread None is e = let both : false ≡ true = sym (ap (λ (f : Option ThreadState). option_map_or is_ready f false) is) ∙ e in cc
    back thread (Some state) is e = place_any w.states (thread - 1) state (numbered-place w.states thread state is) (sym (ap (λ (f : Option ThreadState). option_map_or is_ready f false) is) ∙ e)

pub none-goes : (w : World) → list_any is_ready w.states ≡ false → ¬ SomeGoesOn w
none-goes w none goes = let some : list_any is_ready w.states ≡ true = (some-goes w).1 goes in let both : false ≡ true = sym none ∙ some in cc

-- a ready thread is among the ready ones
ready_nonempty : (first : ℕ) (states : List ThreadState) (place : ℕ) (state : ThreadState) → slice_get states place ≡ Some state → is_ready state ≡ true → ready_from first states ≡ [] → ⊥
ready_nonempty first [] place state is ready empty = cc
ready_nonempty first (x ∷ states) zero state is ready empty =
    let same : x ≡ state = cc in
    let goes : is_ready x ≡ true = ap is_ready same ∙ ready in
    let some : ready_from first (x ∷ states) ≡ first ∷ ready_from (first + 1) states = rw goes refl in
    let both : first ∷ ready_from (first + 1) states ≡ [] = sym some ∙ empty in
    cc
ready_nonempty first (x ∷ states) (suc place) state is ready empty = from (is_ready x) refl (λ none. ready_nonempty (first + 1) states place state is ready none)
  where
    from : (goes : Bool) → is_ready x ≡ goes → (ready_from (first + 1) states ≡ [] → ⊥) → ⊥
    from true e rest =
        let some : ready_from first (x ∷ states) ≡ first ∷ ready_from (first + 1) states = rw e refl in
        let both : first ∷ ready_from (first + 1) states ≡ [] = sym some ∙ empty in
        cc
    from false e rest = let same : ready_from first (x ∷ states) ≡ ready_from (first + 1) states = rw e refl in rest (sym same ∙ empty)

-- where some thread can go on, one is picked
pub goes-picked : (w : World) (cursor : ℕ) (main : Option ℕ) (first : Bool) → SomeGoesOn w → (thread : ℕ) × (picked w.states cursor main first ≡ Some thread)
goes-picked w cursor main first goes = from (picked w.states cursor main first) refl
  where
    empty : picked w.states cursor main first ≡ None → ready_threads w.states ≡ []
    empty is = (picked-is_none w.states cursor main first).0 (subst (λ (found : Option ℕ). IsNone found) (sym is) refl)

    from : (found : Option ℕ) → picked w.states cursor main first ≡ found → (thread : ℕ) × (picked w.states cursor main first ≡ Some thread)
    from None is = let place = any_place w.states ((some-goes w).1 goes) in absurd (ready_nonempty 1 w.states place.0 place.1.0 place.1.1 place.1.2 (empty is))
    from (Some thread) is = (thread, is)

-- where none is picked, no thread can go on
pub none-picked : (w : World) (cursor : ℕ) (main : Option ℕ) (first : Bool) → picked w.states cursor main first ≡ None → ¬ SomeGoesOn w
none-picked w cursor main first none goes = let some = goes-picked w cursor main first goes in let both : None ≡ Some some.0 = sym none ∙ some.1 in cc

-- the same of a state and its threads
pub picked-ready : (s : State) (cursor : ℕ) (main : Option ℕ) (first : Bool) (thread : ℕ) → picked s.world.states cursor main first ≡ Some thread →
    can_go_on s.world thread ≡ true
picked-ready s cursor main first thread is = picked-goes s.world cursor main first thread is

-- no thread is picked exactly where none is ready
pub picked-none : (states : List ThreadState) (cursor : ℕ) (main : Option ℕ) (first : Bool) → (picked states cursor main first ≡ None) ↔ (list_any is_ready states ≡ false)
picked-none states cursor main first = (λ is. to (list_any is_ready states) refl is, λ none. back (picked states cursor main first) refl none)
  where
    to : (any : Bool) → list_any is_ready states ≡ any → picked states cursor main first ≡ None → list_any is_ready states ≡ false
    to true some is = absurd (none-picked (record { cells = []; states = states; threads = []; runs = []; pending = [] }) cursor main first is
        ((some-goes (record { cells = []; states = states; threads = []; runs = []; pending = [] })).0 some))
    to false none is = none

    back : (found : Option ℕ) → picked states cursor main first ≡ found → list_any is_ready states ≡ false → picked states cursor main first ≡ None
    back None is none = is
    back (Some thread) is none = absurd (none-goes (record { cells = []; states = states; threads = []; runs = []; pending = [] }) none
        (thread, picked-goes (record { cells = []; states = states; threads = []; runs = []; pending = [] }) cursor main first thread is))
