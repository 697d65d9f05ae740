-- How a client's input is cut into commands: lines are collected until they are a snippet, and some lines are commands of their own.
use Rattle.std.specs.Prelude.{ℕ, zero, suc, ◌-◌, Bool, true, false, not, ◌&&◌, ◌||◌, ◌==◌, nat_lt, List, [], ◌∷◌, ◌++◌, length, drop, map, reverse, if◌then◌else◌, Option, None, Some, slice_range}
use Rattle.std.specs.Char.{is_ascii_alphabetic}
use Rattle.std.specs.Option.{option_map}
use Rattle.std.specs.List.{list_any, filter}
use Rattle.jsh_tree.specs.declared.token.Token.{Token}
use Rattle.jsh_lex.specs.declared.lexeme.LexFault.{LexFault}
use Rattle.jsh_lex.specs.Chars.{drop_while}
use Rattle.jsh_lex.specs.Lexis.{Lexed, tokens}
use Rattle.jsh_complete.specs.Completeness.{end_of as last_end}
use Rattle.jsh_complete.specs.declared.completion.Completeness.{Completeness}
use Rattle.jsh_complete.specs.declared.completion.Completeness.TheVariants as completeness
use Rattle.jsh_complete.specs.declared.completion.Completion.{Completion}
use Rattle.jsh_complete.specs.Completing.{completion as completion_by}
use Rattle.jsh_tree.specs.Text.{is_white, most_source}
use Rattle.jsh_lines.specs.declared.edge.Edge.TheVariants.{Blank, BlankOrReturn}
use Rattle.jsh_lines.specs.Edges.{behind_front, before_back}
use Rattle.jsh_lines.specs.Lines.{is_blank, as_text, input_lines}
use Rattle.jsh_snippet.specs.declared.acts.Act.{Act}
use Rattle.jsh_commands.specs.Commands.{command as command_of, act_of}
use Rattle.jsh_cut.specs.declared.command.Command.{Command}
use Rattle.jsh_cut.specs.declared.command.Command.TheVariants as command
use Rattle.jsh_cut.specs.declared.held.Held.{Held}
use Rattle.jsh_cut.specs.declared.held.Held.TheVariants as held

-- ---- lines that are commands

-- `/`, and a letter of ASCII or `?` behind it
abbrev pub begins_command : List ℕ → Bool
begins_command (a ∷ b ∷ rest) = a == 47 && (is_ascii_alphabetic b || b == 63)
begins_command _ = false

-- its first characters other than spaces and tabs begin a command
abbrev pub is_slash_line : List ℕ → Bool
is_slash_line line = begins_command (behind_front Blank line)

-- without spaces and tabs at its start, and without spaces, tabs and carriage returns at its end
abbrev pub trimmed : List ℕ → List ℕ
trimmed line = before_back BlankOrReturn (behind_front Blank line)

-- ---- texts that are held

-- the text that is held
abbrev pub held_text : Held → List ℕ
held_text held.Nothing = []
held_text (held.MayEnd text) = text
held_text (held.MustGoOn text) = text

-- the fault of the lexis, if there is one, without its place
abbrev pub fault_of : Lexed → Option LexFault
fault_of lexed = option_map (λ f. f.0) lexed.fault

-- whether the text is whole, and where its first snippet ends
unfoldable pub completion : List ℕ → Completion
completion text = completion_by text (tokens text).tokens (fault_of (tokens text))

-- where the source of a text begins: with its first token, or where it has none with its first character that isn't white
abbrev pub begin_of : List ℕ → ℕ
begin_of text = by (tokens text).tokens
  where
    by : List Token → ℕ
    by [] = length text - length (drop_while is_white text)
    by (t ∷ ts) = t.span.from

-- where the source of a whole text ends: with its last token, or where it has a fault of the lexis with its last character that isn't white
abbrev pub end_of : List ℕ → ℕ
end_of text = by (tokens text).fault
  where
    by : Option (LexFault × ℕ) → ℕ
    by None = last_end (tokens text).tokens
    by (Some fault) = length (drop_while is_white (reverse text))

-- the source that a text submits
unfoldable pub source_of : List ℕ → List ℕ
source_of text = slice_range text (begin_of text) (end_of text)

-- what lines give: commands, the text that is held behind them, and whether a line ends the input there
pub record Gives : Type 0 where
  pub commands : List Command
  pub held : Held
  pub exits : Bool

-- no command, and nothing held
abbrev pub nothing_more : Gives
nothing_more = record { commands = []; held = held.Nothing; exits = false }

-- a source is submitted, and nothing is held
abbrev pub submits : List ℕ → Gives
submits source = record { commands = command.Eval source ∷ []; held = held.Nothing; exits = false }

-- what a text gives that waits for a line: where its source is too long it is submitted, and so meets the limit
abbrev pub waits : Held → List ℕ → Gives
waits waiting source =
    if nat_lt most_source (length source) then submits source
    else record { commands = []; held = waiting; exits = false }

-- with a command before the others
abbrev pub with_command : Command → Gives → Gives
with_command c gives = record gives { commands = c ∷ gives.commands }

-- what is submitted of a text that begins with a snippet
abbrev pub first_source : List ℕ → List ℕ
first_source text = slice_range text (begin_of text) (completion text).end

-- what a text gives by its kind, and by what a rest gives
abbrev pub by_kind : List ℕ → (List ℕ → Gives) → Completeness → Gives
by_kind text onward completeness.Empty = nothing_more
by_kind text onward completeness.Complete = with_command (command.Eval (first_source text)) (onward (drop (completion text).end text))
by_kind text onward completeness.CompleteWithSemi = submits (source_of text)
by_kind text onward completeness.Unknown = submits (source_of text)
by_kind text onward completeness.ConsideredIncomplete = waits (held.MayEnd text) (source_of text)
by_kind text onward completeness.DefinitelyIncomplete = waits (held.MustGoOn text) (source_of text)

-- A text is analyzed, and again as long as a rest is left that doesn't wait for a line. It has less than so many bytes.
abbrev pub analyzed : ℕ → List ℕ → Gives
analyzed zero text = nothing_more
analyzed (suc most) text = by_kind text (λ rest. analyzed most rest) (completion text).kind

-- ---- one line more

-- the line is a command of its own, which it can't be inside a snippet that more must follow
abbrev pub is_command_line : Held → List ℕ → Bool
is_command_line (held.MustGoOn text) line = false
is_command_line _ line = is_slash_line line

-- a text that may be all of a snippet ends before a command and a line of white space
abbrev pub ends_before : List ℕ → Bool
ends_before line = is_slash_line line || is_blank line

-- what is submitted before a line
abbrev pub submitted_before : Held → List ℕ → List Command
submitted_before (held.MayEnd text) line = if ends_before line then command.Eval (source_of text) ∷ [] else []
submitted_before _ line = []

-- what a line comes behind
abbrev pub text_before : Held → List ℕ → List ℕ
text_before held.Nothing line = []
text_before (held.MayEnd text) line = if ends_before line then [] else text
text_before (held.MustGoOn text) line = text

-- with commands before the others
abbrev pub with_commands : List Command → Gives → Gives
with_commands cs gives = record gives { commands = cs ++ gives.commands }

-- an act is one command, and no act ends the input
abbrev pub by_act : Option Act → Gives
by_act None = record { commands = []; held = held.Nothing; exits = true }
by_act (Some what) = record { commands = command.Slash what ∷ []; held = held.Nothing; exits = false }

-- what a line gives that is a command, by the act that it asks for
abbrev pub by_command : List ℕ → Gives
by_command line = by_act (act_of (command_of (trimmed line)))

-- the text with the line behind it, which ends with its line feed
abbrev pub by_text : List ℕ → Gives
by_text text = analyzed (suc (length text)) text

-- a line where nothing is held
abbrev pub by_line : List ℕ → Gives
by_line line = if is_slash_line line then by_command line else by_text (line ++ 10 ∷ [])

-- the commands that one line more gives, and what is held then
unfoldable pub cut_line : Held → List ℕ → Gives
cut_line before line =
    with_commands (submitted_before before line)
    (if is_command_line before line then by_command line else by_text (text_before before line ++ (line ++ 10 ∷ [])))

-- the end of the input
abbrev pub cut_end : Held → List Command
cut_end held.Nothing = []
cut_end (held.MayEnd text) = command.Eval (source_of text) ∷ []
cut_end (held.MustGoOn text) = command.Eval (source_of text) ∷ []

-- ---- all lines

-- what a line gives, and what the lines behind it give, unless it exits
abbrev pub onward : Gives → (Held → Gives) → Gives
onward gives next = if gives.exits then gives else with_commands gives.commands (next gives.held)

-- the commands that the lines give, up to one that exits, and what is held behind them
abbrev pub cut_lines : Held → List (List ℕ) → Gives
cut_lines before [] = record { commands = []; held = before; exits = false }
cut_lines before (line ∷ lines) = onward (cut_line before line) (λ behind. cut_lines behind lines)

-- an input as far as it has come; where it has ended, a last line without its line feed counts
abbrev pub cut_input : List ℕ → Bool → Gives
cut_input bytes ended = cut_lines held.Nothing (map as_text (input_lines bytes ended))

-- The commands of an input as far as it has come, before the exit. What is held is submitted once the input has ended.
abbrev pub before_exit : List ℕ → Bool → List Command
before_exit bytes ended = by (cut_input bytes ended)
  where
    by : Gives → List Command
    by gives = gives.commands ++ (if ended && not gives.exits then cut_end gives.held else [])

-- the input ends, or a line exits before it does
abbrev pub exits : List ℕ → Bool → Bool
exits bytes ended = ended || (cut_input bytes false).exits

-- the commands of an input as far as it has come: the last one is the exit, once it has ended or a line exits
abbrev pub commands : List ℕ → Bool → List Command
commands bytes ended = before_exit bytes ended ++ (if exits bytes ended then command.Exit ∷ [] else [])

abbrev pub is_the_exit : Command → Bool
is_the_exit command.Exit = true
is_the_exit _ = false

-- the exit is among the commands
abbrev pub has_exit : List Command → Bool
has_exit cs = list_any is_the_exit cs

-- the commands without the exit
abbrev pub without_exit : List Command → List Command
without_exit cs = filter (λ c. not (is_the_exit c)) cs
