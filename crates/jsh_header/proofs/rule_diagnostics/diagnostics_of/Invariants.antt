use Rattle.std.proofs.Common.{◌≡◌, map, take}
use Rattle.std.specs.Option.{option_copied}
use Rattle.jsh_header.specs.Diagnostics.{diagnostic}
use Rattle.jsh_header.proofs.rule_diagnostics.diagnostics_of.Given as goal

abbrev pub invariant-loop-breach : goal.invariant-loop-breach
invariant-loop-breach l = l.diagnostics.items ≡ map (diagnostic l.own (option_copied l.superclass) l.others) (take l.breach-index l.breaches)
