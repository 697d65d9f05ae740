use Rattle.std.proofs.Common.{take}
use Rattle.jsh_header.specs.Units.{HasRecords}
use Rattle.jsh_header.proofs.units.records.Given as goal

abbrev pub invariant-loop-unit : goal.invariant-loop-unit
invariant-loop-unit l = HasRecords (take l.unit-index l.units) l.records
