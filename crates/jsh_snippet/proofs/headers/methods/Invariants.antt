use Rattle.std.proofs.Common.{◌≡◌, take, flat_map}
use Rattle.jsh_snippet.specs.Headers.{method_in}
use Rattle.jsh_snippet.proofs.headers.methods.Given as goal

abbrev pub invariant-loop-member : goal.invariant-loop-member
invariant-loop-member l = l.methods.items ≡ flat_map method_in (take l.member-index l.members)
