use Rattle.std.proofs.Common.{◌≡◌, ◌++◌, take}
use Rattle.jsh_header.proofs.hierarchy.push_methods.Given as goal

abbrev pub invariant-loop-method : goal.invariant-loop-method
invariant-loop-method l = l.methods.items ≡ l.initial.methods.items ++ take l.method-index l.more
