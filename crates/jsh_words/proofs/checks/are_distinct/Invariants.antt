use Rattle.std.proofs.Common.{◌≡◌, drop}
use Rattle.jsh_words.specs.Meant.{are_distinct}
use Rattle.jsh_words.proofs.checks.are_distinct.Given as goal

abbrev pub invariant-loop-at : goal.invariant-loop-at
invariant-loop-at l = are_distinct (drop l.at l.names) ≡ are_distinct l.names
