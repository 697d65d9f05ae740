-- What is said of a snippet that is handed in or taken back.
use Rattle.std.specs.Prelude.{ℕ, Bool, true, false, List, [], ◌∷◌, ◌++◌, Option, None, Some, codes, decimal}
use Rattle.std.specs.List.{flat_map, list_any}
use Rattle.jsh_text.specs.Utf.{utf8}
use Rattle.jsh_tree.specs.declared.modifier.Modifier.{Modifier}
use Rattle.jsh_snippet.specs.declared.events.Event.{Event}
use Rattle.jsh_snippet.specs.declared.kinds.Kind.{Kind}
use Rattle.jsh_snippet.specs.declared.kinds.Kind.TheVariants as kind
use Rattle.jsh_snippet.specs.declared.kinds.Status.{Status}
use Rattle.jsh_snippet.specs.declared.kinds.Status.TheVariants as status
use Rattle.jsh_snippet.specs.declared.replies.Submitted.{Submitted}
use Rattle.jsh_render.specs.Diagnostics.{error_line}
use Rattle.jsh_render.specs.Events.{is_overwritten, event_lines}
use Rattle.jsh_render.specs.Names.{names_text}
use Rattle.jsh_render.specs.Outcomes.{value_line}
use Rattle.jsh_render.specs.Words.{modifier_word}

-- `|  Warning: modifier public ignored`
abbrev pub warning_line : Modifier → List ℕ
warning_line modifier = codes "|  Warning: modifier " ++ modifier_word modifier ++ codes " ignored\n"

-- a snippet with the word for what it is: its name, or its number where it has none
abbrev pub title : ℕ → Kind → List ℕ → List ℕ
title id kind.Var name = codes "variable " ++ utf8 name
title id kind.Method name = codes "method " ++ utf8 name
title id kind.TypeDecl name = utf8 name
title id kind.Import name = utf8 name
title id _ name = codes "snippet " ++ decimal id

-- the status of the new snippet
abbrev pub status_of : List Event → Status
status_of [] = status.Nonexistent
status_of (own ∷ others) = own.after

abbrev pub overwrites : Event → Bool
overwrites event = is_overwritten event.after

-- what became of a declaration: whether it took the place of another one, and whether its link is a new one
abbrev pub word_of : Bool → Bool → List ℕ
word_of false changed = codes "created"
word_of true false = codes "modified"
word_of true true = codes "replaced"

abbrev pub made_word : List Event → List ℕ
made_word [] = codes "created"
made_word (own ∷ others) = word_of (list_any overwrites others) own.signature_changed

-- what a snippet that isn't valid waits for
abbrev pub however_text : Status → List (List ℕ) → List ℕ
however_text status.RecoverableDefined missing = codes ", however, it cannot be invoked until " ++ names_text missing ++ codes " declared"
however_text status.RecoverableNotDefined missing = codes ", however, it cannot be referenced until " ++ names_text missing ++ codes " declared"
however_text _ missing = []

-- `|  created method f(int)`, with what it waits for
abbrev pub declared_line : List ℕ → Submitted → Status → List ℕ
declared_line word submitted now =
    codes "|  " ++ word ++ codes " " ++ title submitted.id submitted.kind submitted.name ++ however_text now submitted.unresolved ++ codes "\n"

-- `x ==> 0`, where nothing is run for the variable
abbrev pub default_line : List ℕ → Option (List ℕ) → List ℕ
default_line name None = []
default_line name (Some default) = value_line name default

abbrev pub variable_line : Submitted → Status → List ℕ
variable_line submitted status.RecoverableNotDefined = declared_line (codes "created") submitted status.RecoverableNotDefined
variable_line submitted _ = default_line submitted.name submitted.value

-- the line of the snippet itself, by its kind
abbrev pub snippet_line : Submitted → Kind → List ℕ
snippet_line submitted kind.Var = variable_line submitted (status_of submitted.events)
snippet_line submitted kind.Method = declared_line (made_word submitted.events) submitted (status_of submitted.events)
snippet_line submitted kind.TypeDecl = declared_line (made_word submitted.events) submitted (status_of submitted.events)
snippet_line submitted _ = []

-- all that is said of a snippet with this source
unfoldable pub submitted_lines : List ℕ → Submitted → List ℕ
submitted_lines source submitted =
    flat_map warning_line submitted.ignored
    ++ flat_map (error_line source) submitted.diagnostics
    ++ snippet_line submitted submitted.kind
    ++ event_lines submitted.events

-- `|  dropped variable x`, and what changes by it
abbrev pub dropped_lines : ℕ → Kind → List ℕ → List Event → List ℕ
dropped_lines id kind name events = codes "|  dropped " ++ title id kind name ++ codes "\n" ++ event_lines events
