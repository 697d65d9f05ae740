-- The command is handed in by the entry that is performed.
use Rattle.std.proofs.Common.{[], ◌∷◌, ◌≡◌, ◌≤◌, ◌⊎◌, ℕ, Option, length, ap, sym, ◌∙◌, refl, subst}
use Rattle.jsh_snippet.specs.declared.acts.Act.{Act}
use Rattle.jsh_core.specs.Acts.{is_last}
use Rattle.jsh_core.specs.Limits.{most_entries}
use Rattle.jsh_core.specs.History.{act_bytes, MayDo}
use Rattle.jsh_shell.specs.Limited.{HasNoRoomFor, HasRoomOf}
use Rattle.jsh_shell.specs.Progress.{command_act, phase_after, run_behind}
use Rattle.jsh_shell.specs.Progress.Phase.{Between}
use Rattle.jsh_shell.specs.Serving.{Fails, Serves, Shows}
use Rattle.jsh_shell.specs.Transcript.{is_turn}
use Rattle.jsh_shell.proofs.ActLemmas.{by, command-may, command-quiet, command-stays, hands-in, hands-in-fails}
use Rattle.jsh_shell.proofs.ServeLemmas.{part-at-limit}
use Rattle.jsh_shell.proofs.evaluation.hand_in.Goals as goal

pub returns-then-not-has_room_for-clause-err : goal.returns-then-not-has_room_for-clause-err
returns-then-not-has_room_for-clause-err g c =
    let bytes : c.text_len.result ≡ act_bytes (command_act c.args.command) = c.text_len.ensures ∙ ap act_bytes c.act_of-what.ensures in
    λ budget. part-at-limit budget _ _ _ c.args.command (subst (λ (n : ℕ). (most_entries ≤ length c.args.session.now.core) ⊎ HasNoRoomFor c.args.session.now.core n) bytes (c.has_room_for.ensures.no c.if-not-has_room_for.true))

pub returns-then-not-has_room_for-clause-open : goal.returns-then-not-has_room_for-clause-open
returns-then-not-has_room_for-clause-open g c = c.requires.open

pub returns-then-not-has_room_for-clause-counts : goal.returns-then-not-has_room_for-clause-counts
returns-then-not-has_room_for-clause-counts g c = refl

pub returns-then-not-has_room_for-clause-stream : goal.returns-then-not-has_room_for-clause-stream
returns-then-not-has_room_for-clause-stream g c = refl

pub perform-requires-clause-open : goal.perform-requires-clause-open
perform-requires-clause-open g c = c.requires.open

pub perform-requires-clause-may : goal.perform-requires-clause-may
perform-requires-clause-may g c =
    let bytes : c.text_len.result ≡ act_bytes (command_act c.args.command) = c.text_len.ensures ∙ ap act_bytes c.act_of-what.ensures in
    subst (λ (what : Act). MayDo c.args.session.now.core c.args.client what) (sym c.act_of-what.ensures)
    (command-may _ _ c.args.command c.requires.servable (subst (λ (n : ℕ). HasRoomOf c.args.session.now.core n) bytes (c.has_room_for.ensures.yes c.if-not-has_room_for.false)))

pub perform-requires-clause-quiet : goal.perform-requires-clause-quiet
perform-requires-clause-quiet g c = ap is_turn c.act_of-what.ensures ∙ command-quiet c.args.command c.requires.servable

pub perform-requires-clause-stays : goal.perform-requires-clause-stays
perform-requires-clause-stays g c = ap is_last c.act_of-what.ensures ∙ command-stays c.args.command c.requires.servable

pub returns-in-Ok-clause-ok : goal.returns-in-Ok-clause-ok
returns-in-Ok-clause-ok g c = λ budget.
    subst (λ (run : Option ℕ). Serves budget c.args.client Between (phase_after run) c.args.session.now (record c.args.session.now { core = c.perform.new.core }) (g.O.Sink.held c.args.sink.now) (g.O.Sink.held c.perform.new.sink) (c.args.command ∷ []))
    (sym (c.run_behind.ensures ∙ ap (λ source. run_behind source c.in-Ok.reply.body) c.is_source-source.ensures))
    (hands-in budget _ _ _ _ _ c.args.command c.in-Ok.reply c.requires.servable
    (subst (λ (what : Act). Shows c.args.session.now.core c.perform.new.core (by c.args.client what) c.in-Ok.reply (g.O.Sink.held c.args.sink.now) (g.O.Sink.held c.perform.new.sink)) c.act_of-what.ensures c.in-Ok.ensures.ok)
    c.in-Ok.ensures.free)

pub returns-in-Ok-clause-open : goal.returns-in-Ok-clause-open
returns-in-Ok-clause-open g c = c.in-Ok.ensures.open

pub returns-in-Ok-clause-counts : goal.returns-in-Ok-clause-counts
returns-in-Ok-clause-counts g c = c.in-Ok.ensures.counts

pub returns-in-Ok-clause-stream : goal.returns-in-Ok-clause-stream
returns-in-Ok-clause-stream g c = c.in-Ok.ensures.stream

pub returns-in-Err-clause-err : goal.returns-in-Err-clause-err
returns-in-Err-clause-err g c = λ budget.
    hands-in-fails c.in-Err.why budget _ _ _ _ _ c.args.command c.requires.servable
    (subst (λ (what : Act). Fails c.in-Err.why c.args.session.now.core c.perform.new.core (by c.args.client what) (g.O.Sink.held c.args.sink.now) (g.O.Sink.held c.perform.new.sink)) c.act_of-what.ensures c.in-Err.ensures.err)

pub returns-in-Err-clause-open : goal.returns-in-Err-clause-open
returns-in-Err-clause-open g c = c.in-Err.ensures.open

pub returns-in-Err-clause-counts : goal.returns-in-Err-clause-counts
returns-in-Err-clause-counts g c = c.in-Err.ensures.counts

pub returns-in-Err-clause-stream : goal.returns-in-Err-clause-stream
returns-in-Err-clause-stream g c = c.in-Err.ensures.stream
