-- The words of feedback for statuses, fates, modifiers and limits.
use Rattle.std.specs.Prelude.{ℕ, List, codes}
use Rattle.jsh_tree.specs.declared.modifier.Modifier.{Modifier}
use Rattle.jsh_tree.specs.declared.modifier.Modifier.TheVariants as modifier
use Rattle.jsh_snippet.specs.declared.kinds.Fate.{Fate}
use Rattle.jsh_snippet.specs.declared.kinds.Fate.TheVariants as fate
use Rattle.jsh_snippet.specs.declared.kinds.Status.{Status}
use Rattle.jsh_snippet.specs.declared.kinds.Status.TheVariants as status
use Rattle.jsh_snippet.specs.declared.replies.LimitKind.{LimitKind}
use Rattle.jsh_snippet.specs.declared.replies.LimitKind.TheVariants as limit

-- a status, by its name in `jdk.jshell.Snippet.Status`
abbrev pub status_word : Status → List ℕ
status_word status.Valid = codes "VALID"
status_word status.RecoverableDefined = codes "RECOVERABLE_DEFINED"
status_word status.RecoverableNotDefined = codes "RECOVERABLE_NOT_DEFINED"
status_word status.Dropped = codes "DROPPED"
status_word status.Overwritten = codes "OVERWRITTEN"
status_word status.Rejected = codes "REJECTED"
status_word status.Nonexistent = codes "NONEXISTENT"

abbrev pub fate_word : Fate → List ℕ
fate_word fate.Live = codes "LIVE"
fate_word fate.Done = codes "DONE"
fate_word fate.Overwritten = codes "OVERWRITTEN"
fate_word fate.Dropped = codes "DROPPED"
fate_word fate.Rejected = codes "REJECTED"

-- a modifier as it is written (JLS 8.1.1, 8.3.1, 8.4.3)
abbrev pub modifier_word : Modifier → List ℕ
modifier_word modifier.Public = codes "public"
modifier_word modifier.Protected = codes "protected"
modifier_word modifier.Private = codes "private"
modifier_word modifier.Static = codes "static"
modifier_word modifier.Final = codes "final"
modifier_word modifier.Volatile = codes "volatile"
modifier_word modifier.Abstract = codes "abstract"

abbrev pub limit_name : LimitKind → List ℕ
limit_name limit.Source = codes "Source"
limit_name limit.Records = codes "Records"
limit_name limit.History = codes "History"
limit_name limit.HistoryBytes = codes "HistoryBytes"
limit_name limit.Clients = codes "Clients"
limit_name limit.Threads = codes "Threads"
