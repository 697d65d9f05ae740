use Rattle.std.proofs.Common.{◌≡◌, ◌++◌, map, take}
use Rattle.jsh_header.specs.SuperRules.{interface_named}
use Rattle.jsh_header.proofs.written.push_interfaces.Given as goal

abbrev pub invariant-loop-name : goal.invariant-loop-name
invariant-loop-name l = l.supertypes.items ≡ l.initial.supertypes.items ++ map interface_named (take l.name-index l.names)
