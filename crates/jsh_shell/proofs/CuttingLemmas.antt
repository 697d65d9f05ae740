-- How what a line gives is served, command by command.
use Rattle.std.proofs.Common.{◌≡◌, ℕ, suc, ◌<◌, ◌≤◌, List, [], ◌∷◌, ◌++◌, Option, length, refl, ap, sym, subst, ◌∙◌, arith, append_assoc, append-nil}
use Rattle.std.specs.Prelude.{Result, Ok, Err, IfOk}
use Rattle.std.specs.List.{All}
use Rattle.jsh_cut.specs.declared.command.Command.{Command}
use Rattle.jsh_cut.specs.declared.held.Held.{Held}
use Rattle.jsh_cut.specs.Commands.{Gives, held_text, with_command, with_commands}
use Rattle.jsh_shell.specs.declared.halts.Halt.{Halt}
use Rattle.jsh_shell.specs.declared.halts.Halt.TheVariants as halt
use Rattle.jsh_shell.specs.declared.lines.Behind.{Behind}
use Rattle.jsh_shell.specs.declared.session.Session.{Session}
use Rattle.jsh_shell.specs.Progress.Phase.{Between}
use Rattle.jsh_shell.specs.Cutting.{ServesCut}
use Rattle.jsh_shell.specs.Serving.{IsServable, Serves, ServesPart}
use Rattle.jsh_shell.proofs.ServeLemmas.{serves-nothing, serves-append, serves-part-append, serves-part-more, part-for-memory}

-- Of what was to come, some commands were served, and this is still to come.
pub record IsCutting (budget client : ℕ) (first now : Session) (x y : Option (List ℕ)) (whole left : Gives) : Type 0 where
  pub served : List Command
  pub serves : Serves budget client Between Between first now x y served
  pub gives : whole ≡ with_commands served left
  pub servable : All IsServable left.commands

pub cutting-start : (budget client : ℕ) (h : Session) (x : Option (List ℕ)) (whole : Gives) → All IsServable whole.commands → IsCutting budget client h h x x whole whole
cutting-start budget client h x whole servable = record { served = []; serves = serves-nothing budget client Between h x; gives = refl; servable = servable }

-- the first of some
pub first-servable : (command : Command) (rest left : Gives) → with_command command rest ≡ left → All IsServable left.commands → IsServable command
first-servable command rest left is all = subst (λ (g : Gives). All IsServable g.commands) (sym is) all 0 command (omega arith)

later-servable : (command : Command) (rest left : Gives) → with_command command rest ≡ left → All IsServable left.commands → All IsServable rest.commands
later-servable command rest left is all = λ k d h. subst (λ (g : Gives). All IsServable g.commands) (sym is) all (suc k) d (omega (arith, h))

-- one command more was served
pub cutting-more : (budget client : ℕ) (a b c : Session) (x y z : Option (List ℕ)) (whole left rest : Gives) (command : Command) →
    IsCutting budget client a b x y whole left → with_command command rest ≡ left → Serves budget client Between Between b c y z (command ∷ []) → IsCutting budget client a c x z whole rest
cutting-more budget client a b c x y z whole left rest command k is s = record {
  served = k.served ++ command ∷ [];
  serves = serves-append budget client Between Between Between a b c x y z k.served (command ∷ []) k.serves s;
  gives = k.gives ∙ ap (with_commands k.served) (sym is)
      ∙ ap (λ (cs : List Command). let g : Gives = record { commands = cs; held = rest.held; exits = rest.exits } in g) (sym (append_assoc k.served (command ∷ []) rest.commands));
  servable = later-servable command rest left is k.servable;
}

-- the serving of a command halted
pub cutting-part : (why : Halt) (budget client : ℕ) (a b c : Session) (x y z : Option (List ℕ)) (whole left rest : Gives) (command : Command) →
    IsCutting budget client a b x y whole left → with_command command rest ≡ left → ServesPart why budget client Between b c y z (command ∷ []) → ServesPart why budget client Between a c x z whole.commands
cutting-part why budget client a b c x y z whole left rest command k is s =
    subst (λ (cs : List Command). ServesPart why budget client Between a c x z cs)
    (sym (ap (λ (g : Gives). g.commands) (k.gives ∙ ap (with_commands k.served) (sym is))))
    (serves-part-append why budget client Between Between a b c x y z k.served (command ∷ rest.commands) k.serves (serves-part-more why budget client Between b c y z (command ∷ []) rest.commands s))

-- the next command was not cut for want of memory
pub cutting-memory : (why : Halt) (budget client : ℕ) (a b : Session) (x y : Option (List ℕ)) (whole left : Gives) →
    IsCutting budget client a b x y whole left → why ≡ halt.NoMemory → ServesPart why budget client Between a b x y whole.commands
cutting-memory why budget client a b x y whole left k is =
    subst (λ (why : Halt). ServesPart why budget client Between a b x y whole.commands) (sym is)
    (subst (λ (g : Gives). ServesPart halt.NoMemory budget client Between a b x y g.commands) (sym k.gives)
    (serves-part-append halt.NoMemory budget client Between Between a b b x y y k.served left.commands k.serves (part-for-memory budget client Between b y left.commands)))

-- all was served
pub cutting-last : (budget client : ℕ) (a b : Session) (x y : Option (List ℕ)) (whole left : Gives) (behind : Behind) →
    IsCutting budget client a b x y whole left → record { commands = []; held = behind.held; exits = behind.exits } ≡ left → ServesCut budget client a b x y whole behind
cutting-last budget client a b x y whole left behind k is =
    let all : whole ≡ record { commands = k.served ++ []; held = behind.held; exits = behind.exits } = k.gives ∙ ap (with_commands k.served) (sym is) in record {
      serves = subst (λ (cs : List Command). Serves budget client Between Between a b x y cs) (sym (ap (λ (g : Gives). g.commands) all ∙ append-nil k.served)) k.serves;
      held = ap (λ (g : Gives). g.held) (sym all);
      exits = ap (λ (g : Gives). g.exits) (sym all);
    }

-- a command less is still to come
pub cutting-shorter : (command : Command) (rest left : Gives) → with_command command rest ≡ left → length rest.commands < length left.commands
cutting-shorter command rest left is = subst (λ (g : Gives). length rest.commands < length g.commands) is (omega arith)

-- what stands behind a line that was served is no longer than what the line gives
pub few-behind : (budget client : ℕ) (a b : Session) (x y : Option (List ℕ)) (gives : Gives) (most : ℕ) (result : Result Behind Halt) →
    IfOk result (λ behind. ServesCut budget client a b x y gives behind) → length (held_text gives.held) ≤ most → IfOk result (λ behind. length (held_text behind.held) ≤ most)
few-behind budget client a b x y gives most (Ok behind) s few = subst (λ (h : Held). length (held_text h) ≤ most) (sym s.held) few
few-behind budget client a b x y gives most (Err why) s few = tt
