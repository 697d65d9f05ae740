-- What is said of the snippets that an act changes beside its own.
use Rattle.std.specs.Prelude.{ℕ, Bool, true, false, List, [], ◌∷◌, ◌++◌, Option, None, Some, codes, if◌then◌else◌}
use Rattle.std.specs.List.{flat_map}
use Rattle.jsh_text.specs.Utf.{utf8}
use Rattle.jsh_snippet.specs.declared.events.Event.{Event}
use Rattle.jsh_snippet.specs.declared.kinds.Status.{Status}
use Rattle.jsh_snippet.specs.declared.kinds.Status.TheVariants.{Overwritten}
use Rattle.jsh_render.specs.Words.{status_word}

abbrev pub is_overwritten : Status → Bool
is_overwritten Overwritten = true
is_overwritten _ = false

-- the default value of a variable that has it anew
abbrev pub reset_text : Option (List ℕ) → List ℕ
reset_text None = []
reset_text (Some default) = codes ", reset to " ++ utf8 default

-- `|    f() is now VALID`, `|    a is now VALID, reset to null`
abbrev pub change_line : Event → List ℕ
change_line event = codes "|    " ++ utf8 event.name ++ codes " is now " ++ status_word event.after ++ reset_text event.reset ++ codes "\n"

-- nothing is said of a snippet that was overwritten
abbrev pub event_line : Event → List ℕ
event_line event = if is_overwritten event.after then [] else change_line event

-- the first event is that of the act's own snippet, which is spoken of elsewhere
abbrev pub event_lines : List Event → List ℕ
event_lines [] = []
event_lines (own ∷ others) = flat_map event_line others
