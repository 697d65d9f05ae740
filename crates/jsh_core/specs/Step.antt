-- What an entry does, and what is replied to it.
use Rattle.std.specs.Prelude.{ℕ, [], ◌==◌, Bool, true, false, Option, List, if◌then◌else◌, slice_get, slice_set}
use Rattle.std.specs.Option.{unwrap_or}
use Rattle.jsh_snippet.specs.declared.acts.Act.{Act}
use Rattle.jsh_snippet.specs.declared.acts.Act.TheVariants as act
use Rattle.jsh_snippet.specs.declared.acts.Entry.{Entry}
use Rattle.jsh_snippet.specs.declared.replies.Reply.{Reply}
use Rattle.jsh_snippet.specs.declared.replies.ReplyBody.{ReplyBody}
use Rattle.jsh_snippet.specs.declared.replies.ReplyBody.TheVariants as body
use Rattle.jsh_core.specs.State.{State, World, Acted, Stepped}
use Rattle.jsh_core.specs.Snippets.{submitted}
use Rattle.jsh_core.specs.Threads.{turn}
use Rattle.jsh_core.specs.Runs.{collect, expire, stop}
use Rattle.jsh_core.specs.Drops.{drop_snippet}
use Rattle.jsh_core.specs.Clients.{enter, leave, close, reset}
use Rattle.jsh_core.specs.Questions.{asked}

-- what an act of a client does
abbrev pub act_step : State → ℕ → Act → Acted
act_step s client act.Enter = enter s
act_step s client (act.Submit source) = submitted s client source
act_step s client (act.Turn thread steps) = turn s thread steps
act_step s client (act.Collect run) = collect s client run
act_step s client (act.Expire run steps) = expire s client run steps
act_step s client (act.Stop run) = stop s client run
act_step s client (act.Drop target) = drop_snippet s target
act_step s client (act.Ask question) = asked s question
act_step s client act.Reset = reset s
act_step s client act.Leave = leave s client
act_step s client act.Close = close s

-- what a client's threads have printed and no reply has handed over
abbrev pub pending_of : World → ℕ → List ℕ
pending_of w client = unwrap_or (slice_get w.pending client) []

-- a reply hands over what the client's threads have printed, but for that of a turn and a refusal
abbrev pub hands_over : ReplyBody → Bool
hands_over (body.Turned steps) = false
hands_over (body.Refused why) = false
hands_over _ = true

-- the reply to a client, with what its threads have printed
abbrev pub delivered : ℕ → Acted → Stepped
delivered client acted = if hands_over acted.body then record {
  state = record acted.state { world = record acted.state.world { pending = slice_set acted.state.world.pending client [] } };
  reply = record { output = pending_of acted.state.world client; body = acted.body };
} else record { state = acted.state; reply = record { output = []; body = acted.body } }

abbrev pub step : State → Entry → Stepped
step s entry = delivered entry.client (act_step s entry.client entry.act)

-- the steps that a turn has done, where it has done any
abbrev pub done_steps : ℕ → ReplyBody → ℕ
done_steps asked (body.Turned steps) = if steps == 0 then asked else steps
done_steps asked _ = asked

-- an act with so many steps, where it is a turn
abbrev pub act_with_steps : Act → ℕ → Act
act_with_steps (act.Turn thread asked) steps = act.Turn thread steps
act_with_steps what steps = what

-- an act as the history keeps it: a turn with the steps that it has done
abbrev pub kept_act : Act → ReplyBody → Act
kept_act (act.Turn thread asked) reply = act.Turn thread (done_steps asked reply)
kept_act what reply = what

abbrev pub kept : Entry → Reply → Entry
kept entry reply = record entry { act = kept_act entry.act reply.body }
