-- The rule of the lock's table, and what each of its steps tells.
-- Word 0 is the ticket that is drawn next, word 1 the ticket that is served, and word 2 the length of the history. The slot has the value.
-- Tickets count from 0 on without end, and a word has its ticket modulo 2^64.
use Rattle.std.specs.Prelude.{◌≡◌, ◌⊎◌, ℕ, ◌+◌, ◌%◌, ◌<◌, ◌≤◌, ◌==◌, List, [], ◌∷◌, ◌++◌, length, Option, Some, None, MatchBool}
use Rattle.std.specs.List.{Contains, count_by, sum_by}
use mathlib.Core.Option.{some, none}
use mathlib.Core.Option as maybe
use lib.ListN.{get_elem?}
use Rattle.atomic_table.specs.Table.{State, Me, Step}
use Rattle.jsh_turnlock.specs.declared.view.View.{View}
use Rattle.jsh_turnlock.specs.declared.view.Home.{Home}
use Rattle.jsh_turnlock.specs.History.{own, StartsWith, longer}

-- how often a number stands in a list
abbrev pub times : ℕ → List ℕ → ℕ
times k ks = count_by (λ x. x == k) ks

-- an optional number, as a list
abbrev pub listed : Option ℕ → List ℕ
listed None = []
listed (Some k) = k ∷ []

-- the number, or 0
abbrev pub or_zero : Option ℕ → ℕ
or_zero None = 0
or_zero (Some k) = k

-- the list without its first element
abbrev pub but_first : List ℕ → List ℕ
but_first [] = []
but_first (k ∷ ks) = ks

module _ {I : Type 0} where
  -- a view at the start of a history, with these numbers
  abbrev pub fresh : List ℕ → View I
  fresh numbers = record { numbers = numbers; seen = []; told = []; ticket = None; count = None }

  -- the view of a pass that waits for nothing
  abbrev pub resting : ℕ → View I → View I
  resting number v = record { numbers = number ∷ but_first v.numbers; seen = v.seen; told = []; ticket = None; count = None }

  -- the view of a pass that has the turn
  abbrev pub holding : ℕ → ℕ → View I → View I
  holding number made v = record { numbers = number ∷ but_first v.numbers; seen = v.seen; told = []; ticket = v.ticket; count = Some made }

  -- the history goes on from what the view has seen, and adds nothing under the view's numbers
  abbrev pub GoesOn : View I → List (ℕ × I) → Type 0
  GoesOn v history = StartsWith history v.seen × ((c : ℕ) → Contains v.numbers c → own history c ≡ own v.seen c)

  -- what each view meets, where `serving` is the ticket that is served, `drawn` the next one, `made` the count of passes, and `log` the one history
  pub record Fits (serving drawn made : ℕ) (log : List (ℕ × I)) (v : View I) : Type 0 where
    pub goes_on : GoesOn v log
    pub told : StartsWith log v.told
    pub numbers : (c : ℕ) → Contains v.numbers c → c < made
    pub ticket : (k : ℕ) → v.ticket ≡ Some k → (serving ≤ k) × (k < drawn)
    pub waits : length (listed v.ticket) ≤ length v.numbers
    pub holds : (m : ℕ) → v.count ≡ Some m → (m ≡ made) × (v.ticket ≡ Some serving) × (v.seen ≡ log)

  -- some view holds the turn, or none does
  abbrev pub Held : List (View I) → Type 0
  Held views = (id : ℕ) × (v : View I) × (m : ℕ) × (get_elem? views id ≡ some v) × (v.count ≡ Some m)

  abbrev pub Free : List (View I) → Type 0
  Free views = (id : ℕ) (v : View I) → get_elem? views id ≡ some v → v.count ≡ None

module _ {T I : Type 0} (history : T → List (ℕ × I)) (numbers : T → ℕ) where
  -- the value with its count, which has this history
  abbrev pub IsHome : ℕ → List (ℕ × I) → Home T → Type 0
  IsHome made log home = (history home.value ≡ log) × (numbers home.value ≡ made) × (home.made ≡ made)

  -- Where no view holds the turn, the value is home. Else it is out with the one that does
  abbrev pub IsKeptIn : ℕ → List (ℕ × I) → List (View I) → List (maybe.Option (Option (Home T))) → Type 0
  IsKeptIn made log views homes =
      ((home : Home T) × (homes ≡ some (Some home) ∷ []) × IsHome made log home × Free views)
      ⊎ ((homes ≡ none ∷ []) × Held views)

  pub record Kept (s : State (Option (Home T)) (View I)) : Type 0 where
    pub serving : ℕ
    pub drawn : ℕ
    pub made : ℕ
    pub log : List (ℕ × I)
    pub words : s.words ≡ drawn % 18446744073709551616 ∷ serving % 18446744073709551616 ∷ length log ∷ []
    -- each ticket from the one served up to the next one is that of one view
    pub tickets : (k : ℕ) → serving ≤ k → k < drawn → sum_by (λ v. times k (listed v.ticket)) s.views ≡ 1
    pub queue : serving + sum_by (λ v. length (listed v.ticket)) s.views ≡ drawn
    -- each number that was given out belongs to one view, and there are fewer than 2^32
    pub owners : (c : ℕ) → c < made → sum_by (λ v. times c v.numbers) s.views ≡ 1
    pub passes : sum_by (λ v. length v.numbers) s.views ≡ made
    pub few : made < 4294967296
    -- a number has no entry before it is given out
    pub later : (c : ℕ) → made ≤ c → own log c ≡ []
    pub each : (id : ℕ) (v : View I) → get_elem? s.views id ≡ some v → Fits serving drawn made log v
    pub slot : IsKeptIn made log s.views s.homes

  -- the look finds the seat's ticket served, and the seat takes the value, whose history goes on from what the seat has seen, and whose count is above the seat's numbers
  abbrev pub Takes : Me (Option (Home T)) (View I) → Me (Option (Home T)) (View I) → Type 0
  Takes m w = (home : Home T) × (w ≡ (record m.0 { seen = history home.value; count = Some home.made }, (0, Some home) ∷ m.1)) × GoesOn m.0 (history home.value) × (numbers home.value ≡ home.made) × ((c : ℕ) → Contains m.0.numbers c → c < home.made)

  abbrev pub Looks : Step (Option (Home T)) → Me (Option (Home T)) (View I) → ℕ → Me (Option (Home T)) (View I) → Type 0
  Looks st m found w = MatchBool (found == or_zero m.0.ticket % 18446744073709551616) (Takes m w) (w ≡ m)

module _ {T I : Type 0} (history : T → List (ℕ × I)) where
  -- the holder has seen the history of the value that it has put back
  abbrev pub Counts : Step (Option (Home T)) → Me (Option (Home T)) (View I) → ℕ → Me (Option (Home T)) (View I) → Type 0
  Counts st m found w = (home : Home T) → m.1 ≡ (0, Some home) ∷ [] → w ≡ (record m.0 { seen = history home.value }, m.1)

module _ {T I : Type 0} where
  -- the seat has the ticket that it finds
  abbrev pub Draws : Step (Option (Home T)) → Me (Option (Home T)) (View I) → ℕ → Me (Option (Home T)) (View I) → Type 0
  Draws st m found w = (k : ℕ) × (found ≡ k % 18446744073709551616) × (w ≡ (record m.0 { ticket = Some k }, m.1))

  -- the value is home, and the seat has no ticket any more
  abbrev pub PassesOn : Step (Option (Home T)) → Me (Option (Home T)) (View I) → ℕ → Me (Option (Home T)) (View I) → Type 0
  PassesOn st m found w = w ≡ (record m.0 { ticket = None; count = None }, [])

  -- the seat has seen the history, and finds its length
  abbrev pub Measures : Step (Option (Home T)) → Me (Option (Home T)) (View I) → ℕ → Me (Option (Home T)) (View I) → Type 0
  Measures st m found w = (log : List (ℕ × I)) × (length log ≡ found) × (w ≡ (record m.0 { seen = log }, m.1)) × GoesOn m.0 log

  -- the seat has seen the longer of what it has seen and what it was told
  abbrev pub Hears : Step (Option (Home T)) → Me (Option (Home T)) (View I) → ℕ → Me (Option (Home T)) (View I) → Type 0
  Hears st m found w =
      let log = longer m.0.seen m.0.told in (w ≡ (record m.0 { seen = log; told = [] }, m.1)) × GoesOn m.0 log × StartsWith log m.0.told

module _ {I : Type 0} where
  -- a seat that is no pass, and has seen the same
  abbrev pub note : View I → View I
  note v = record { numbers = []; seen = v.seen; told = []; ticket = None; count = None }

  -- a seat that was told what a note has seen
  abbrev pub informed : View I → View I → View I
  informed v w = record v { told = w.seen }

  -- a seat in which another pass has ended
  abbrev pub gathered : View I → View I → View I
  gathered v w = record v { numbers = v.numbers ++ w.numbers }

  -- the holder counts one pass more
  abbrev pub counted : View I → View I
  counted v = record v { count = Some (or_zero v.count + 1) }

  -- the pass with the next number, which has seen what the holder has seen
  abbrev pub forked : View I → View I
  forked v = record { numbers = or_zero v.count ∷ []; seen = v.seen; told = []; ticket = None; count = None }
