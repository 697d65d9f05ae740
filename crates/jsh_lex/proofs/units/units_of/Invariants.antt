use Rattle.std.proofs.Common.{◌≡◌, ◌++◌, length}
use denote.Text.{Utf8}
use denote.Shadow.{shadow}
use Rattle.std.specs.Str.{chars}
use Rattle.jsh_lex.specs.Value.{units_behind}
use Rattle.jsh_lex.proofs.units.units_of.Given as goal

abbrev pub invariant-loop-c : goal.invariant-loop-c
invariant-loop-c l =
    shadow (Utf8 l.content) × (l.units.items ++ units_behind 0 (chars l.content) ≡ units_behind 0 (chars l.initial.content))

abbrev pub decreases-loop-c : goal.decreases-loop-c
decreases-loop-c l = length l.content
