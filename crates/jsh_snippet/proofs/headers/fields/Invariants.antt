use Rattle.std.proofs.Common.{◌≡◌, take, flat_map}
use Rattle.jsh_snippet.specs.Headers.{field_in}
use Rattle.jsh_snippet.proofs.headers.fields.Given as goal

abbrev pub invariant-loop-member : goal.invariant-loop-member
invariant-loop-member l = l.fields.items ≡ flat_map field_in (take l.member-index l.members)
