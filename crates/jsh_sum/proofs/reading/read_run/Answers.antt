use Rattle.std.proofs.Common.{ap, sym, ◌∙◌, arith}
use Rattle.jsh_sum.specs.Reading.{operand_of, part_of}
use Rattle.jsh_sum.proofs.NoSum.{no_first, no_part}
use Rattle.jsh_sum.proofs.reading.read_run.Goals as goal

pub returns-in_default : goal.returns-in_default
returns-in_default c = no_first (operand_of c.args.first.now) c.args.rest.now (sym c.operand_of.ensures ∙ c.in_default.is)

pub returns-in_default-part_of : goal.returns-in_default-part_of
returns-in_default-part_of c =
    no_part (operand_of c.args.first.now) c.in-Some.first c.args.rest.now c.loop-operation.operation-index _ c.operation-item.result
    (sym c.operand_of.ensures ∙ c.in-Some.is) (omega arith) c.loop-operation.invariant
    (ap part_of (sym c.operation-item.is) ∙ sym c.part_of.ensures ∙ c.in_default-part_of.is)
