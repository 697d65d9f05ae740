-- Each entry is one that a journal has room for, and what was written so far is the front of the journal.
use Rattle.std.proofs.Common.{◌<◌, ◌^◌, length, take, arith, rules}
use Rattle.jsh_replay.specs.Journal.{front_bytes}
use Rattle.jsh_replay.proofs.LegalLaws.{allowed-client, allowed-steps, allowed-text, item-allowed, legal-few}
use Rattle.jsh_replay.proofs.WritingLaws.{item-front, item-writable, whole-bytes, whole-writable}
use Rattle.jsh_replay.proofs.writing.write_journal.Goals as goal

pub loop-entry-init : goal.loop-entry-init
unfolding front_bytes
loop-entry-init c = search rules

pub push_entry-requires-clause-client : goal.push_entry-requires-clause-client
push_entry-requires-clause-client c =
    allowed-client (take c.loop-entry.entry-index c.args.history.now) c.entry-item.result
    (item-allowed c.args.history.now c.loop-entry.entry-index c.entry-item.result c.requires c.loop-entry-test.true c.entry-item.is)

pub push_entry-requires-clause-text : goal.push_entry-requires-clause-text
push_entry-requires-clause-text c =
    allowed-text (take c.loop-entry.entry-index c.args.history.now) c.entry-item.result
    (item-allowed c.args.history.now c.loop-entry.entry-index c.entry-item.result c.requires c.loop-entry-test.true c.entry-item.is)

pub push_entry-requires-clause-steps : goal.push_entry-requires-clause-steps
push_entry-requires-clause-steps c =
    allowed-steps (take c.loop-entry.entry-index c.args.history.now) c.entry-item.result
    (item-allowed c.args.history.now c.loop-entry.entry-index c.entry-item.result c.requires c.loop-entry-test.true c.entry-item.is)

pub loop-entry-preserved : goal.loop-entry-preserved
loop-entry-preserved c = (
  item-front c.args.history.now c.loop-entry.entry-index c.entry-item.result c.loop-entry.out.items c.push_entry.new.out.items c.loop-entry-test.true c.entry-item.is c.loop-entry.invariant.0
      c.in_ok-push_entry.ensures.bytes,
  item-writable c.args.history.now c.loop-entry.entry-index c.entry-item.result c.loop-entry-test.true c.entry-item.is c.loop-entry.invariant.1 c.in_ok-push_entry.ensures.writable,
)

pub overflow_cast-history : goal.overflow_cast-history
overflow_cast-history c = let few : length c.args.history.now < 2 ^ 32 = legal-few c.args.history.now c.requires in omega (arith, few)

pub returns-clause-bytes : goal.returns-clause-bytes
returns-clause-bytes c =
    whole-bytes c.args.history.now c.loop-entry.entry-index c.loop-entry.out.items c.push.new.self.items c.to_be_bytes.result c.extend_from_slice-2.new.self.items c.loop-entry-test.false
    c.loop-entry.invariant.0 c.in_ok-push.ensures.items c.to_be_bytes.ensures c.in_ok-extend_from_slice-2.ensures.items

pub returns-clause-journal : goal.returns-clause-journal
returns-clause-journal c = record {
  written = record { legal = c.requires; writable = whole-writable c.args.history.now c.loop-entry.entry-index c.loop-entry-test.false c.loop-entry.invariant.1 };
  bytes_are = whole-bytes c.args.history.now c.loop-entry.entry-index c.loop-entry.out.items c.push.new.self.items c.to_be_bytes.result c.extend_from_slice-2.new.self.items c.loop-entry-test.false
      c.loop-entry.invariant.0 c.in_ok-push.ensures.items c.to_be_bytes.ensures c.in_ok-extend_from_slice-2.ensures.items;
}
