use Rattle.std.proofs.Common.{◌≡◌, map, take}
use Rattle.jsh_core.specs.Questions.{record_line}
use Rattle.jsh_core.proofs.questions.all_lines.Given as goal

abbrev pub invariant-loop-found : goal.invariant-loop-found
invariant-loop-found l = l.lines.items ≡ map record_line (take l.found-index l.book)
