-- What was read is the front of the bytes, and what comes behind it decides.
use Rattle.std.proofs.Common.{◌-◌, length, refl, sym, subst, arith}
use Rattle.jsh_replay.specs.declared.journal_error.JournalError.{JournalError}
use Rattle.jsh_replay.specs.Journal.{BeginsWithEntry, IsNext}
use Rattle.jsh_replay.specs.Faults.{HasCause}
use Rattle.jsh_replay.proofs.OneReading.{next-shorter}
use Rattle.jsh_replay.proofs.ReadingLaws.{more-shorter, opened, read-more, read-whole, refused-item, went-on}
use Rattle.jsh_replay.proofs.reading.read_items.Goals as goal

pub loop-past-init : goal.loop-past-init
loop-past-init c = opened c.args.bytes.now c.in-Some.behind.now c.in_ok-past.past c.in_ok-past.ensures c.in-Some.ensures.found

pub loop-past-smaller : goal.loop-past-smaller
loop-past-smaller c =
    let next : IsNext c.loop-past.past c.loop-past.rest.now c.in-Some-2.entry c.in-Some-2.after.now = rw c.in-Some-2.is at c.in_ok-entry.ensures.found in
    next-shorter c.loop-past.past c.loop-past.rest.now c.in-Some-2.entry c.in-Some-2.after.now next

pub loop-past-preserved : goal.loop-past-preserved
loop-past-preserved c =
    let next : IsNext c.loop-past.past c.loop-past.rest.now c.in-Some-2.entry c.in-Some-2.after.now = rw c.in-Some-2.is at c.in_ok-entry.ensures.found in
    went-on c.args.bytes.now c.loop-past.past c.push.new.self c.loop-past.rest.now c.in-Some-2.entry c.in-Some-2.after.now c.loop-past.invariant next c.in_ok-push.ensures.ok

pub bad_journal-requires-in-Some-behind_end : goal.bad_journal-requires-in-Some-behind_end
bad_journal-requires-in-Some-behind_end c =
    more-shorter c.args.bytes.now c.loop-past.past c.loop-past.rest.now c.in-Some-behind_end.more.now c.len.result c.loop-past.invariant (λ i. omega (arith, c.type_inv.bytes i)) c.len.ensures
    c.in-Some-behind_end.ensures

pub returns-in-None : goal.returns-in-None
returns-in-None c =
    let stuck : ¬ BeginsWithEntry c.loop-past.past c.loop-past.rest.now = rw c.in_default-2.is at c.in_ok-entry.ensures.none in
    subst (λ (why : JournalError). HasCause c.args.bytes.now why) (sym c.bad_journal.ensures)
    (refused-item c.args.bytes.now c.loop-past.past c.loop-past.rest.now c.len.result (length c.args.bytes.now - length c.loop-past.rest.now) c.loop-past.invariant stuck c.len.ensures
    c.in-None.ensures refl)

pub returns-in-Some-empty : goal.returns-in-Some-empty
returns-in-Some-empty c =
    read-whole c.args.bytes.now c.loop-past.past c.into_entries.result.items c.loop-past.rest.now c.in-Some-empty.field-0.now c.len.result c.loop-past.invariant (λ i. omega (arith, c.type_inv.bytes i))
    c.into_entries.ensures c.len.ensures c.in-Some-empty.ensures (omega (arith, c.in-Some-empty.len_below))

pub returns-in-Some-behind_end : goal.returns-in-Some-behind_end
returns-in-Some-behind_end c =
    subst (λ (why : JournalError). HasCause c.args.bytes.now why) (sym c.bad_journal-in-Some-behind_end.ensures)
    (read-more c.args.bytes.now c.loop-past.past c.loop-past.rest.now c.in-Some-behind_end.more.now c.len.result (length c.args.bytes.now - length c.in-Some-behind_end.more.now) c.loop-past.invariant
    (λ i. omega (arith, c.type_inv.bytes i)) c.len.ensures c.in-Some-behind_end.ensures (omega (arith, c.in-Some-behind_end.len_at_least)) refl)
