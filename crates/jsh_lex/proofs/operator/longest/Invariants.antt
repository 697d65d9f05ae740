use Rattle.std.proofs.Common.{◌≡◌, length, map}
use Rattle.std.specs.Str.{chars}
use Rattle.jsh_lex.specs.Table.{longest}
use Rattle.jsh_lex.proofs.operator.longest.Given as goal

abbrev pub invariant-loop-longer : goal.invariant-loop-longer
invariant-loop-longer l =
    longest (map (λ entry. (entry.0.now, entry.1)) l.longer) l.alone (chars l.rest) ≡ longest (map (λ entry. (entry.0.now, entry.1)) l.initial.longer) l.alone (chars l.rest)

abbrev pub decreases-loop-longer : goal.decreases-loop-longer
decreases-loop-longer l = length l.longer
