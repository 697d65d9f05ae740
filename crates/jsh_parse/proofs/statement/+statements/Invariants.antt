use Rattle.std.proofs.Common.{◌≡◌, ◌+◌, ◌*◌, ◌-◌, ◌≤◌, drop}
use Rattle.jsh_parse.specs.StatementReader.{statements_read, groups_read, catches}
use Rattle.jsh_parse.specs.StatementReading.{statements_below, statements_at, groups_at, catches_at}
use Rattle.jsh_parse.proofs.Onward.{prepend}
use Rattle.jsh_parse.proofs.statement.+statements.Given as goal

abbrev pub decreases-stmt : goal.decreases-stmt
decreases-stmt l = 64 * l.room + 20

abbrev pub decreases-block_alone : goal.decreases-block_alone
decreases-block_alone l = 64 * l.room + 10

abbrev pub decreases-branch : goal.decreases-branch
decreases-branch l = 64 * l.room + 10

abbrev pub decreases-looped : goal.decreases-looped
decreases-looped l = 64 * l.room + 10

abbrev pub decreases-do_while : goal.decreases-do_while
decreases-do_while l = 64 * l.room + 10

abbrev pub decreases-for_loop : goal.decreases-for_loop
decreases-for_loop l = 64 * l.room + 10

abbrev pub decreases-switch : goal.decreases-switch
decreases-switch l = 64 * l.room + 10

abbrev pub decreases-groups : goal.decreases-groups
decreases-groups l = 64 * l.room + 30

abbrev pub decreases-group : goal.decreases-group
decreases-group l = 64 * l.room + 28

abbrev pub decreases-statements : goal.decreases-statements
decreases-statements l = 64 * l.room + 25

abbrev pub decreases-block_statement : goal.decreases-block_statement
decreases-block_statement l = 64 * l.room + 22

abbrev pub decreases-block : goal.decreases-block
decreases-block l = 64 * l.room + 5

abbrev pub decreases-try_block : goal.decreases-try_block
decreases-try_block l = 64 * l.room + 12

abbrev pub decreases-catches : goal.decreases-catches
decreases-catches l = 64 * l.room + 11

abbrev pub decreases-catch : goal.decreases-catch
decreases-catch l = 64 * l.room + 10

abbrev pub invariant-statements-loop-turn : goal.invariant-statements-loop-turn
invariant-statements-loop-turn l = record {
  forward : l.from ≤ l.at;
  reads : statements_at l.input.text.now l.room (drop l.from l.input.tokens.now)
      ≡ prepend l.inside.items (statements_read (l.most - l._turn) l.input.text.now (statements_below l.input.text.now l.room) (drop l.at l.input.tokens.now));
}

abbrev pub invariant-groups-loop-turn : goal.invariant-groups-loop-turn
invariant-groups-loop-turn l = record {
  forward : l.from ≤ l.at;
  reads : groups_at l.input.text.now l.room (drop l.from l.input.tokens.now)
      ≡ prepend l.groups.items (groups_read (l.most - l._turn) l.input.text.now (statements_below l.input.text.now l.room) (drop l.at l.input.tokens.now));
}

abbrev pub invariant-catches-loop-turn : goal.invariant-catches-loop-turn
invariant-catches-loop-turn l = record {
  forward : l.from ≤ l.at;
  reads : catches_at l.input.text.now l.room (drop l.from l.input.tokens.now)
      ≡ prepend l.catches.items (catches (l.most - l._turn) l.input.text.now (statements_below l.input.text.now l.room) (drop l.at l.input.tokens.now));
}
