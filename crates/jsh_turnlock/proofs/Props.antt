-- The facts of a turn have one proof each.
use Rattle.std.proofs.Common.{◌≡◌, ℕ, [], ◌<◌, ◌∷◌, length, Option, None}
use base.Stored.{Coded}
use denote.Struct.Props.{props}
use Rattle.atomic_table.specs.Table.{Me}
use Rattle.atomic_table.specs.Seated.{TableId}
use Rattle.jsh_turnlock.specs.declared.view.View.{View}
use Rattle.jsh_turnlock.specs.declared.view.Home.{Home}
use Rattle.jsh_turnlock.specs.declared.handles.Held.{Held}
use Rattle.jsh_turnlock.specs.Rule.{holding}
use Rattle.jsh_turnlock.specs.Known.{with_value}

pub one_table : (a b : TableId) → IsProp (a ≡ b)
one_table a b = hlevel props

pub one_number : (a b : ℕ) → IsProp (a ≡ b)
one_number a b = hlevel props

pub one_order : (a b : ℕ) → IsProp (a < b)
one_order a b = hlevel props

pub one_view : {T I : Type 0} → Coded T → Coded I → (a b : Me (Option (Home T)) (View I)) → IsProp (a ≡ b)
one_view K K' a b = hlevel props

-- a turn is its fields, whatever the proofs of its facts are
pub same_turn : {T I : Type 0} → Coded T → Coded I → (held : Held T I) (w : T)
    → (placed : held.seat.table_id ≡ held.lock.now.table.shared.table_id) (holds : held.seat.me ≡ (holding held.number held.made held.seat.me.0, (0, None) ∷ [])) (long : held.found ≡ length held.seat.me.0.seen) (below : held.number < held.made)
    → ◌≡◌ {A = Held T I} (record { lock = held.lock; number = held.number; made = held.made; found = held.found; value = w; seat = held.seat; placed = placed; holds = holds; length_found = long; numbered = below }) (with_value held w)
same_turn K K' held w placed holds long below = λ i. record {
  lock = held.lock;
  number = held.number;
  made = held.made;
  found = held.found;
  value = w;
  seat = held.seat;
  placed = one_table held.seat.table_id held.lock.now.table.shared.table_id placed held.placed i;
  holds = one_view K K' held.seat.me (holding held.number held.made held.seat.me.0, (0, None) ∷ []) holds held.holds i;
  length_found = one_number held.found (length held.seat.me.0.seen) long held.length_found i;
  numbered = one_order held.number held.made below held.numbered i;
}
