-- One turn, with the steps that are left of the budget.
use Rattle.std.proofs.Common.{◌≡◌, ◌≤◌, ◌<◌, ◌+◌, ℕ, arith, ap, sym, subst, ◌∙◌, refl, length, List}
use Rattle.jsh_snippet.specs.declared.acts.Entry.{Entry}
use Rattle.jsh_core.specs.Limits.{most_entries, most_steps}
use Rattle.jsh_shell.specs.declared.session.Session.{Session}
use Rattle.jsh_shell.specs.Driving.{done_of}
use Rattle.jsh_shell.specs.Serving.{Drives, IsOpen}
use Rattle.jsh_shell.proofs.DriveLemmas.{drives-part, drives-turn, drives-within, open-turn-kept, open-turn-part}
use Rattle.jsh_shell.proofs.ServeLemmas.{part-when-full}
use Rattle.jsh_shell.proofs.driving.take_turn.Goals as goal

pub returns-then-len-ge-MOST_ENTRIES-clause-err : goal.returns-then-len-ge-MOST_ENTRIES-clause-err
returns-then-len-ge-MOST_ENTRIES-clause-err g c =
    let full : most_entries ≤ length c.args.session.now.core = omega (arith, c.len.ensures.entries, c.if-len-ge-MOST_ENTRIES.true) in
    λ held. part-when-full _ _ _ _ _ held full

pub returns-then-len-ge-MOST_ENTRIES-clause-open : goal.returns-then-len-ge-MOST_ENTRIES-clause-open
returns-then-len-ge-MOST_ENTRIES-clause-open g c = c.requires.open

pub returns-then-len-ge-MOST_ENTRIES-clause-sink : goal.returns-then-len-ge-MOST_ENTRIES-clause-sink
returns-then-len-ge-MOST_ENTRIES-clause-sink g c = λ e. cc

pub apply-requires : goal.apply-requires
apply-requires g c =
    let some : length c.args.session.now.core < most_entries = omega (arith, c.len.ensures.entries, c.if-len-ge-MOST_ENTRIES.false) in
    record { present = c.requires.open.present; «open» = c.requires.open.«open»; may = (some, omega arith, omega arith) }

pub overflow_sub-budget : goal.overflow_sub-budget
overflow_sub-budget g c = omega (arith, c.requires.below)

pub overflow_cast-result : goal.overflow_cast-result
overflow_cast-result g c =
    let within = drives-within c.args.budget c.args.client c.args.run c.args.used c.turn_steps.result c.args.session.now c.args.turn c.in-Ok.reply c.requires.turn c.requires.below c.turn_steps.ensures c.in-Ok.ensures.reply in
    omega (arith, within.1, c.steps_done.ensures, c.ranges.budget.fits)

pub overflow_add-result : goal.overflow_add-result
overflow_add-result g c =
    let within = drives-within c.args.budget c.args.client c.args.run c.args.used c.turn_steps.result c.args.session.now c.args.turn c.in-Ok.reply c.requires.turn c.requires.below c.turn_steps.ensures c.in-Ok.ensures.reply in
    omega (arith, within.1, c.steps_done.ensures, c.ranges.budget.fits)

pub returns-in-Ok-clause-ok : goal.returns-in-Ok-clause-ok
returns-in-Ok-clause-ok g c =
    subst (λ (n : ℕ). Drives c.args.budget c.args.client c.args.run c.args.used (c.args.used + n) c.args.session.now c.note_turn.new.session) (sym c.steps_done.ensures)
    (subst (λ (after : Session). Drives c.args.budget c.args.client c.args.run c.args.used (c.args.used + done_of c.in-Ok.reply.body) c.args.session.now after) (sym c.note_turn.ensures)
    (drives-turn _ _ _ _ c.turn_steps.result _ _ c.args.turn c.in-Ok.reply c.requires.turn c.requires.below c.turn_steps.ensures c.in-Ok.ensures.reply c.in-Ok.ensures.history))

pub returns-in-Ok-clause-more : goal.returns-in-Ok-clause-more
returns-in-Ok-clause-more g c =
    let within = drives-within c.args.budget c.args.client c.args.run c.args.used c.turn_steps.result c.args.session.now c.args.turn c.in-Ok.reply c.requires.turn c.requires.below c.turn_steps.ensures c.in-Ok.ensures.reply in
    (omega (arith, within.0, c.steps_done.ensures), omega (arith, within.1, c.steps_done.ensures))

pub returns-in-Ok-clause-open : goal.returns-in-Ok-clause-open
returns-in-Ok-clause-open g c =
    subst (λ (after : Session). IsOpen c.args.client after.core) (sym c.note_turn.ensures) (open-turn-kept _ _ _ _ _ c.in-Ok.reply c.requires.open c.in-Ok.ensures.history)

pub returns-in-Ok-clause-sink : goal.returns-in-Ok-clause-sink
returns-in-Ok-clause-sink g c = λ e. cc

pub returns-in-Err-clause-err : goal.returns-in-Err-clause-err
returns-in-Err-clause-err g c = drives-part _ _ _ _ c.turn_steps.result _ _ c.args.turn c.requires.turn c.turn_steps.ensures c.in-Err.ensures.err

pub returns-in-Err-clause-open : goal.returns-in-Err-clause-open
returns-in-Err-clause-open g c = open-turn-part _ _ _ _ _ c.requires.open c.in-Err.ensures.err

pub returns-in-Err-clause-sink : goal.returns-in-Err-clause-sink
returns-in-Err-clause-sink g c = λ e. cc
