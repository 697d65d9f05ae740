use Rattle.std.proofs.Common.{◌≡◌}
use Rattle.jsh_text.specs.Utf.{utf16}
use Rattle.jsh_text.proofs.utext.encoded.Given as goal

abbrev pub invariant-loop-character : goal.invariant-loop-character
invariant-loop-character l = l.units.items ≡ utf16 l.yielded
