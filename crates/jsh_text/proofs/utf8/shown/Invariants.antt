-- What was made, with the text of the units that are left, is the text of all the units.
use Rattle.std.proofs.Common.{◌≡◌, ◌++◌, ◌-◌, length, drop}
use Rattle.std.specs.String.{string_bytes}
use Rattle.jsh_text.specs.Utf.{utf8}
use Rattle.jsh_text.proofs.utf8.shown.Given as goal

abbrev pub invariant-loop-at : goal.invariant-loop-at
invariant-loop-at l = string_bytes l.text ++ utf8 (drop l.at l.units) ≡ utf8 l.units

abbrev pub decreases-loop-at : goal.decreases-loop-at
decreases-loop-at l = length l.units - l.at
