-- A pass and a turn may be shared among threads. A shared seat shows nothing, so it is enough that a seat may go to another thread.
use denote.RattleType.{RattleType}
use denote.Ref.{NamedLft}
use denote.Param.Send.{IsSend, IsSync, part_keyless, plain_sync, shr_sync, struct_sync, recorded_sync}
use denote.Struct.Declared.{shape}
use Rattle.atomic_table.specs.contracts.shared.Seat as Seat
use Rattle.atomic_table.proofs.shared.Seat.TheSendSync.{the_send as seat_send}
use Rattle.std.specs.contracts.option.Option as Option
use Rattle.std.proofs.option.Option.TheSendSync.{the_send as option_send}
use Rattle.jsh_turnlock.specs.declared.chronicle.Chronicle.{Ghosts}
use Rattle.jsh_turnlock.specs.contracts.handles.Held as Held
use Rattle.jsh_turnlock.specs.contracts.handles.Pass as Pass
use Rattle.jsh_turnlock.specs.contracts.handles.TurnLock as TurnLock
use Rattle.jsh_turnlock.specs.contracts.view.Home as Home
use Rattle.jsh_turnlock.specs.contracts.view.View as View
use Rattle.jsh_turnlock.proofs.handles.TurnLock.TheSendSync.{the_sync as lock_sync}
use Rattle.jsh_turnlock.proofs.view.Home.TheSendSync.{the_send as home_send}

seat_sync : (S V : RattleType) → IsSend S → IsSync (Seat.the_row S V)
seat_sync S V s = record { shared = λ d b o ν q. part_keyless (Seat.the_row S V) (seat_send S V s) q d b o }

-- the seat of a pass over values of T
place_sync : (T I : RattleType) → IsSend T → IsSync (Seat.the_row (Option.the_row (Home.the_row T)) (View.the_row I))
place_sync T I s = seat_sync (Option.the_row (Home.the_row T)) (View.the_row I) (option_send (Home.the_row T) (home_send T s))

pub pass_sync : (T I : RattleType) (g : Ghosts T.Denot I.Denot) → IsSend T → IsSync (Pass.the_row T I g)
pass_sync T I g s = recorded_sync (Pass.the_field T I g).row _ _ (Pass.the_type T I g).to_one (struct_sync (shape (Pass.the_type T I g)) (plain_sync _ _ _ _ _, (place_sync T I s, tt)))

pub held_sync : (a : NamedLft) (T I : RattleType) (g : Ghosts T.Denot I.Denot) → IsSend T → IsSync T → IsSync (Held.the_row a T I g)
held_sync a T I g s y = recorded_sync (Held.the_field a T I g).row _ _ (Held.the_type a T I g).to_one
    (struct_sync (shape (Held.the_type a T I g))
    (shr_sync _ _ (TurnLock.the_row T I g) (lock_sync T I g s), (plain_sync _ _ _ _ _, (plain_sync _ _ _ _ _, (plain_sync _ _ _ _ _, (y, (place_sync T I s, tt)))))))
