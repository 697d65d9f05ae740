use Rattle.std.proofs.Common.{◌≡◌, take}
use Rattle.std.specs.List.{AllByRecursion}
use Rattle.jsh_replay.specs.Journal.{front_bytes, IsWritable}
use Rattle.jsh_replay.proofs.writing.write_journal.Given as goal

abbrev pub invariant-loop-entry : goal.invariant-loop-entry
invariant-loop-entry l =
    (l.out.items ≡ front_bytes (take l.entry-index l.history)) × AllByRecursion IsWritable (take l.entry-index l.history)
