use Rattle.std.proofs.Common.{◌≡◌, take, flat_map}
use Rattle.jsh_snippet.specs.Headers.{constructor_in}
use Rattle.jsh_snippet.proofs.headers.written_constructors.Given as goal

abbrev pub invariant-loop-member : goal.invariant-loop-member
invariant-loop-member l = l.written.items ≡ flat_map constructor_in (take l.member-index l.members)
