-- A turn changes the world alone.
use Rattle.std.proofs.Common.{◌≤◌, refl, arith}
use Rattle.jsh_core.specs.declared.parts.Parts.{Parts}
use Rattle.jsh_core.proofs.TurnedParts.{turned-sound, turned-within, IsTurned}
use Rattle.jsh_core.proofs.turns.turn_thread.Goals as goal

pub returns-in-Ok-clause-sound : goal.returns-in-Ok-clause-sound
returns-in-Ok-clause-sound c =
    let turned : IsTurned c.args.parts.now (record c.args.parts.now { world = c.turn.new.world }) c.args.number c.args.most =
    record { book = refl; generation = refl; clients = refl; world = c.turn.ensures.world; steps = c.in-Ok.done; turn = c.in-Ok.ensures.ok; few = c.requires.most } in
    turned-sound c.args.parts.now (record c.args.parts.now { world = c.turn.new.world }) c.args.number c.args.most c.requires.sound turned

pub returns-in-Ok-clause-within : goal.returns-in-Ok-clause-within
returns-in-Ok-clause-within c = λ entries h.
    let turned : IsTurned c.args.parts.now (record c.args.parts.now { world = c.turn.new.world }) c.args.number c.args.most =
    record { book = refl; generation = refl; clients = refl; world = c.turn.ensures.world; steps = c.in-Ok.done; turn = c.in-Ok.ensures.ok; few = c.requires.most } in
    turned-within c.args.parts.now (record c.args.parts.now { world = c.turn.new.world }) c.args.number c.args.most entries turned h

pub returns-in-Err-clause-sound : goal.returns-in-Err-clause-sound
returns-in-Err-clause-sound c =
    let few : c.in-Err.cut.done ≤ 256 = omega (arith, c.in-Err.ensures.short, c.requires.most) in
    let turned : IsTurned c.args.parts.now (record c.args.parts.now { world = c.turn.new.world }) c.args.number c.in-Err.cut.done =
    record { book = refl; generation = refl; clients = refl; world = c.turn.ensures.world; steps = c.in-Err.cut.done; turn = c.in-Err.ensures.err; few = few } in
    turned-sound c.args.parts.now (record c.args.parts.now { world = c.turn.new.world }) c.args.number c.in-Err.cut.done c.requires.sound turned

pub returns-in-Err-clause-within : goal.returns-in-Err-clause-within
returns-in-Err-clause-within c = λ entries h.
    let few : c.in-Err.cut.done ≤ 256 = omega (arith, c.in-Err.ensures.short, c.requires.most) in
    let turned : IsTurned c.args.parts.now (record c.args.parts.now { world = c.turn.new.world }) c.args.number c.in-Err.cut.done =
    record { book = refl; generation = refl; clients = refl; world = c.turn.ensures.world; steps = c.in-Err.cut.done; turn = c.in-Err.ensures.err; few = few } in
    turned-within c.args.parts.now (record c.args.parts.now { world = c.turn.new.world }) c.args.number c.in-Err.cut.done entries turned h
