use Rattle.std.proofs.Common.{◌≡◌, ◌++◌, map, take}
use Rattle.jsh_header.specs.SuperRules.{superclass_named}
use Rattle.jsh_header.proofs.written.push_superclasses.Given as goal

abbrev pub invariant-loop-name : goal.invariant-loop-name
invariant-loop-name l = l.supertypes.items ≡ l.initial.supertypes.items ++ map superclass_named (take l.name-index l.names)
