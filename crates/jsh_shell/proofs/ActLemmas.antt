-- What the entry of a command does to the progress of its client.
use Rattle.std.proofs.Common.{◌≡◌, ℕ, Bool, true, false, List, [], ◌∷◌, ◌++◌, Option, None, Some, refl, ap, sym, subst, ◌∙◌}
use Rattle.jsh_snippet.specs.declared.acts.Act.{Act}
use Rattle.jsh_snippet.specs.declared.acts.Act.TheVariants as act
use Rattle.jsh_snippet.specs.declared.acts.Entry.{Entry}
use Rattle.jsh_snippet.specs.declared.replies.Reply.{Reply}
use Rattle.jsh_snippet.specs.declared.replies.ReplyBody.{ReplyBody}
use Rattle.jsh_cut.specs.declared.command.Command.{Command}
use Rattle.jsh_cut.specs.declared.command.Command.TheVariants.{Eval, Slash, Exit}
use Rattle.jsh_core.specs.Acts.{is_last}
use Rattle.jsh_core.specs.State.{State}
use Rattle.jsh_core.specs.Step.{step}
use Rattle.jsh_core.specs.History.{state_of, act_bytes, MayDo}
use Rattle.jsh_shell.specs.declared.halts.Halt.{Halt}
use Rattle.jsh_shell.specs.declared.session.Session.{Session}
use Rattle.jsh_shell.specs.Progress.{Phase, Progress, Goes, behind_command, command_act, is_limit, is_source, phase_after, run_behind}
use Rattle.jsh_shell.specs.Progress.Phase.{Between, Evaluating, CutShort}
use Rattle.jsh_shell.specs.Transcript.{is_turn}
use Rattle.jsh_shell.specs.Limited.{HasRoomOf}
use Rattle.jsh_shell.specs.Serving.{Fails, IsServable, IsSlash, Serves, ServesPart, Shows, Stands}
use Rattle.jsh_shell.proofs.Walk.{goes-on, advances-act, halts-act}

-- a client's entry
abbrev pub by : ℕ → Act → Entry
by client what = record { client = client; act = what }

-- ---- the act of a command that is served

slash-may : (history : List Entry) (client : ℕ) (what : Act) → IsSlash what → HasRoomOf history (act_bytes what) → MayDo history client what
slash-may history client (act.Stop run) is room = room.0
slash-may history client (act.Drop target) is room = (room, is)
slash-may history client (act.Ask question) is room = (room, is)
slash-may history client act.Reset is room = room.0
slash-may history client _ is room = absurd is

slash-quiet : (what : Act) → IsSlash what → is_turn what ≡ false
slash-quiet (act.Turn thread steps) is = absurd is
slash-quiet _ is = refl

slash-stays : (what : Act) → IsSlash what → is_last what ≡ false
slash-stays act.Leave is = absurd is
slash-stays act.Close is = absurd is
slash-stays _ is = refl

pub command-may : (history : List Entry) (client : ℕ) (command : Command) → IsServable command → HasRoomOf history (act_bytes (command_act command)) → MayDo history client (command_act command)
command-may history client (Eval source) servable room = room
command-may history client (Slash what) servable room = slash-may history client what servable room
command-may history client Exit servable room = absurd servable

pub command-quiet : (command : Command) → IsServable command → is_turn (command_act command) ≡ false
command-quiet (Eval source) servable = refl
command-quiet (Slash what) servable = slash-quiet what servable
command-quiet Exit servable = absurd servable

pub command-stays : (command : Command) → IsServable command → is_last (command_act command) ≡ false
command-stays (Eval source) servable = refl
command-stays (Slash what) servable = slash-stays what servable
command-stays Exit servable = absurd servable

-- ---- the entry of a command

-- the progress behind the entry of the next command
abbrev pub behind_next : ℕ → State → Progress → Command → List Command → Progress
behind_next client s p command more =
    behind_command p command more (step s (by client (command_act command))).state (step s (by client (command_act command))).reply.body

pub goes-next : (budget client : ℕ) (session : Session) (p : Progress) (command : Command) (more : List Command) → IsServable command → Stands Between session (command ∷ more) p →
    Goes budget client (state_of session.core) p (by client (command_act command)) (behind_next client (state_of session.core) p command more)
goes-next budget client session p command more servable b =
    goes-on budget client (state_of session.core) p (behind_next client (state_of session.core) p command more) (command_act command) (command-stays command servable) b.has_left
    (rw (b.phase, b.left) (refl, refl))

-- an evaluation that begins was not cut short
pub phase-never-cut : (run : Option ℕ) → phase_after run ≡ CutShort → ⊥
phase-never-cut None e = cc
phase-never-cut (Some run) e = cc

-- the same session with another history
abbrev pub with_core : Session → List Entry → Session
with_core session core = record session { core = core }

-- a command that was handed in and answered
pub hands-in : (budget client : ℕ) (session : Session) (core : List Entry) (held now : Option (List ℕ)) (command : Command) (reply : Reply) → IsServable command →
    Shows session.core core (by client (command_act command)) reply held now → is_limit reply.body ≡ false →
    Serves budget client Between (phase_after (run_behind (is_source command) reply.body)) session (with_core session core) held now (command ∷ [])
hands-in budget client session core held now command reply servable shows free = record {
  each = λ p more b. (
    behind_next client (state_of session.core) p command more,
    advances-act budget client session.core core held now (command_act command) reply p _ shows (command-quiet command servable) (goes-next budget client session p command more servable b),
    record {
      phase = ap (λ (r : Reply). phase_after (run_behind (is_source command) r.body)) (sym shows.reply);
      left = refl;
      limited = ap (λ (r : Reply). is_limit r.body) (sym shows.reply) ∙ free;
      has_left = b.has_left;
      last_turn = b.last_turn;
      cursor = b.cursor;
    },
  );
}

-- a command that was not handed in, or of whose answer a part was written, or that was refused at a limit
pub hands-in-fails : (why : Halt) (budget client : ℕ) (session : Session) (core : List Entry) (held now : Option (List ℕ)) (command : Command) → IsServable command →
    Fails why session.core core (by client (command_act command)) held now → ServesPart why budget client Between session (with_core session core) held now (command ∷ [])
hands-in-fails why budget client session core held now command servable fails = record {
  each = λ p more b. halts-act why budget client session.core core held now (command_act command) p (behind_next client (state_of session.core) p command more) fails (command-quiet command servable)
      (goes-next budget client session p command more servable b) refl
      (phase-never-cut (run_behind (is_source command) (step (state_of session.core) (by client (command_act command))).reply.body)) b.has_left b.has_left;
}
