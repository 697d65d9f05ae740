use Rattle.std.proofs.Common.{◌≡◌, length}
use Rattle.jsh_lex.specs.Number.{value_behind}
use Rattle.jsh_lex.proofs.number.value_of_digits.Given as goal

abbrev pub invariant-loop-digits : goal.invariant-loop-digits
invariant-loop-digits l = value_behind l.base l.value l.digits ≡ value_behind l.base 0 l.initial.digits

abbrev pub decreases-loop-digits : goal.decreases-loop-digits
decreases-loop-digits l = length l.digits
