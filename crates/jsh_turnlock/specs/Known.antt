-- What contracts see of a lock, a pass and a turn. A pass is its number, the beginning of the history that it has seen, and the numbers of the passes that ended in it.
use Rattle.std.specs.Prelude.{◌≡◌, ℕ, List}
use Rattle.std.specs.List.{Contains}
use Rattle.atomic_table.specs.Seated.{TableId}
use Rattle.jsh_turnlock.specs.declared.chronicle.Chronicle.{Ghosts}
use Rattle.jsh_turnlock.specs.declared.handles.TurnLock.{TurnLock}
use Rattle.jsh_turnlock.specs.declared.handles.Pass.{Pass}
use Rattle.jsh_turnlock.specs.declared.handles.Held.{Held}
use Rattle.jsh_turnlock.specs.History.{own}
use Rattle.jsh_turnlock.specs.Rule.{but_first}

module _ {T I : Type 0} where
  -- which lock it is
  abbrev pub lock_id : TurnLock T I → TableId
  lock_id lock = lock.table.shared.table_id

  -- of a turn: its lock, the number of the holder's pass, and the numbers of those that ended in it
  abbrev pub turn_lock : Held T I → TableId
  turn_lock held = held.seat.table_id

  abbrev pub turn_number : Held T I → ℕ
  turn_number held = held.number

  abbrev pub turn_gathered : Held T I → List ℕ
  turn_gathered held = but_first held.seat.me.0.numbers

  -- the history that the holder found
  abbrev pub turn_found : Held T I → List (ℕ × I)
  turn_found held = held.seat.me.0.seen

  -- the count of passes that were made
  abbrev pub turn_made : Held T I → ℕ
  turn_made held = held.made

  -- the turn with this value
  abbrev pub with_value : Held T I → T → Held T I
  with_value held x = record held { value = x }

module _ {T I : Type 0} {g : Ghosts T I} where
  -- the lock that made the pass
  abbrev pub lock_of : Pass T I g → TableId
  lock_of pass = pass.seat.table_id

  -- the beginning of the history that the pass has seen
  abbrev pub seen_by : Pass T I g → List (ℕ × I)
  seen_by pass = pass.seat.me.0.seen

  -- the numbers of the passes that ended in this one
  abbrev pub gathered_by : Pass T I g → List ℕ
  gathered_by pass = but_first pass.seat.me.0.numbers

  -- the pass of one lock with one number, in which the same passes ended
  abbrev pub IsSamePass : Pass T I g → Pass T I g → Type 0
  IsSamePass p q = (lock_of q ≡ lock_of p) × (q.number ≡ p.number) × (gathered_by q ≡ gathered_by p)

  -- the history has no further entry of a pass that ended in this one
  abbrev pub KeepsGathered : Pass T I g → List (ℕ × I) → Type 0
  KeepsGathered pass history = (c : ℕ) → Contains (gathered_by pass) c → own history c ≡ own (seen_by pass) c
