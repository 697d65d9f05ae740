-- Turn by turn.
use Rattle.std.proofs.Common.{◌≡◌, ◌≤◌, ◌<◌, ◌+◌, ℕ, [], arith, ap, sym, subst, ◌∙◌, refl, Err}
use Rattle.jsh_shell.specs.declared.halts.Halt.TheVariants as halt
use Rattle.jsh_shell.specs.Progress.Phase.{Evaluating}
use Rattle.jsh_shell.specs.Serving.{Drives}
use Rattle.jsh_shell.proofs.ServeLemmas.{serves-append, serves-nothing, serves-part-append}
use Rattle.jsh_shell.proofs.driving.drive.Goals as goal

pub turns-init : goal.turns-init
turns-init g c = record { «open» = c.requires; within = omega arith; drives = λ held. serves-nothing _ _ _ _ held }

pub returns-in-None-clause-ok : goal.returns-in-None-clause-ok
returns-in-None-clause-ok g c = (c.turns.used, c.turns-test.true, c.in-None.ensures.none c.args.client, c.turns.invariant.drives)

pub returns-in-None-clause-open : goal.returns-in-None-clause-open
returns-in-None-clause-open g c = c.turns.invariant.open

pub returns-in-None-clause-sink : goal.returns-in-None-clause-sink
returns-in-None-clause-sink g c = λ e. cc

pub take_turn-requires-clause-open : goal.take_turn-requires-clause-open
take_turn-requires-clause-open g c = c.turns.invariant.open

pub take_turn-requires-clause-below : goal.take_turn-requires-clause-below
take_turn-requires-clause-below g c = c.turns-test.true

pub take_turn-requires-clause-turn : goal.take_turn-requires-clause-turn
take_turn-requires-clause-turn g c = c.in-Some.ensures.some

pub returns-in-Err-clause-err : goal.returns-in-Err-clause-err
returns-in-Err-clause-err g c = λ held. serves-part-append c.in-Err.why _ _ _ _ _ _ _ held held held [] [] (c.turns.invariant.drives held) (c.in-Err.ensures.err held)

pub returns-in-Err-clause-open : goal.returns-in-Err-clause-open
returns-in-Err-clause-open g c = c.in-Err.ensures.open

pub returns-in-Err-clause-sink : goal.returns-in-Err-clause-sink
returns-in-Err-clause-sink g c = λ e. let sunk : c.in-Err.why ≡ halt.SinkFailed = cc in c.in-Err.ensures.sink (ap Err sunk)

pub turns-preserved : goal.turns-preserved
turns-preserved g c = record {
  «open» = c.in-Ok.ensures.open;
  within = c.in-Ok.ensures.more.1;
  drives = λ held. serves-append _ _ _ _ _ _ _ _ held held held [] [] (c.turns.invariant.drives held) (c.in-Ok.ensures.ok held);
}

pub turns-smaller : goal.turns-smaller
turns-smaller g c = let more = c.in-Ok.ensures.more.0 in let within = c.in-Ok.ensures.more.1 in omega arith

pub returns-clause-ok : goal.returns-clause-ok
returns-clause-ok g c =
    let whole : c.turns.used ≡ c.args.budget = omega (arith, c.turns.invariant.within, c.turns-test.false) in
    subst (λ (n : ℕ). Drives c.args.budget c.args.client c.args.run 0 n c.args.session.now c.turns.session) whole c.turns.invariant.drives

pub returns-clause-open : goal.returns-clause-open
returns-clause-open g c = c.turns.invariant.open

pub returns-clause-sink : goal.returns-clause-sink
returns-clause-sink g c = λ e. cc
