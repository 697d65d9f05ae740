-- An entry comes exactly where one is read that may come.
use Rattle.std.proofs.Common.{arith}
use Rattle.jsh_replay.proofs.OneReading.{next-read, none-allowed, none-read}
use Rattle.jsh_replay.proofs.StandingLaws.{clash}
use Rattle.jsh_replay.proofs.reading.next_entry.Goals as goal

pub returns-then-may_come-clause-found : goal.returns-then-may_come-clause-found
returns-then-may_come-clause-found c =
    next-read c.args.past.now c.args.bytes.now (c.in-Ok.entry, c.in-Ok.rest.now) (λ i. omega (arith, c.type_inv.bytes i)) c.in-Ok.ensures (c.may_come.ensures.0 c.if-may_come.true)

pub returns-in-Ok-clause-none : goal.returns-in-Ok-clause-none
returns-in-Ok-clause-none c =
    none-allowed c.args.past.now c.args.bytes.now (c.in-Ok.entry, c.in-Ok.rest.now) c.in-Ok.ensures (λ allowed. clash c.may_come.result (c.may_come.ensures.1 allowed) c.if-may_come.false)

pub returns-in-Err-NoItem-clause-none : goal.returns-in-Err-NoItem-clause-none
returns-in-Err-NoItem-clause-none c = none-read c.args.past.now c.args.bytes.now (rw c.in-Err-NoItem.field-0-is at c.in-Err-NoItem.ensures)
