-- What is still to come of a line that is cut command by command.
use Rattle.std.specs.Prelude.{true, false, []}
use Rattle.jsh_cut.specs.declared.command.Command.TheVariants as command
use Rattle.jsh_cut.specs.declared.held.Held.TheVariants as held
use Rattle.jsh_cut.specs.declared.cutting.Tail.{Tail}
use Rattle.jsh_cut.specs.declared.cutting.Tail.TheVariants as tail
use Rattle.jsh_cut.specs.declared.cutting.Cutting.{Cutting}
use Rattle.jsh_cut.specs.declared.cutting.Cutting.TheVariants as cutting
use Rattle.jsh_cut.specs.declared.next.Next.{Next}
use Rattle.jsh_cut.specs.declared.next.Next.TheVariants as next
use Rattle.jsh_cut.specs.Commands.{Gives, nothing_more, with_command, source_of, by_text}

-- what a line gives of which no text is left
abbrev pub by_tail : Tail → Gives
by_tail tail.Nothing = nothing_more
by_tail (tail.Slash act) = with_command (command.Slash act) nothing_more
by_tail tail.Exit = record { commands = []; held = held.Nothing; exits = true }

-- what is still to come
abbrev pub coming : Cutting → Gives
coming (cutting.Ends text behind) = with_command (command.Eval (source_of text)) (by_tail behind)
coming (cutting.Grown text) = by_text text
coming (cutting.Left rest) = by_text rest
coming (cutting.Last behind) = by_tail behind

-- what comes next, with what is still to come behind it
abbrev pub given : Next → Gives
given (next.Eval source behind) = with_command (command.Eval source) (coming behind)
given (next.Slash act behind) = with_command (command.Slash act) (coming behind)
given (next.Waits text) = record { commands = []; held = text; exits = false }
given next.Exit = by_tail tail.Exit
