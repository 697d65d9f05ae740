use Rattle.jsh_header.proofs.Naming.{records_more}
use Rattle.jsh_header.proofs.units.records.Goals as goal

pub loop-unit-preserved : goal.loop-unit-preserved
loop-unit-preserved c =
    records_more c.args.units.now c.loop-unit.unit-index c.unit-item.result c.loop-unit.records c.insert.new.self c.loop-unit-test.true c.unit-item.is c.in_ok-insert.ensures.updates.0 c.loop-unit.invariant
