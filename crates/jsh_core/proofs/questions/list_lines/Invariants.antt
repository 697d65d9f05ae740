use Rattle.std.proofs.Common.{◌≡◌, map, filter, take}
use Rattle.jsh_core.specs.Questions.{is_listed, record_line}
use Rattle.jsh_core.proofs.questions.list_lines.Given as goal

abbrev pub invariant-loop-found : goal.invariant-loop-found
invariant-loop-found l = l.lines.items ≡ map record_line (filter is_listed (take l.found-index l.book))
