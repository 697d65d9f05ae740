use Rattle.std.proofs.Common.{◌≡◌, ◌+◌, ◌*◌, ◌-◌, ◌≤◌, [], length, drop}
use Rattle.jsh_parse.specs.Reader.{readers, parts, sizes, listed, initials}
use Rattle.jsh_parse.specs.Reading.{below, level_at}
use Rattle.jsh_parse.specs.Runs.{resumed}
use Rattle.jsh_parse.proofs.Onward.{prepend}
use Rattle.jsh_parse.proofs.+parser.Given as goal

abbrev pub decreases-expression::expr : goal.decreases-expression::expr
decreases-expression::expr l = 64 * l.room + 46

abbrev pub decreases-expression::conditional : goal.decreases-expression::conditional
decreases-expression::conditional l = 64 * l.room + 44

abbrev pub decreases-expression::branches : goal.decreases-expression::branches
decreases-expression::branches l = 64 * l.room

abbrev pub decreases-expression::level : goal.decreases-expression::level
decreases-expression::level l = 64 * l.room + 12

abbrev pub decreases-expression::unary : goal.decreases-expression::unary
decreases-expression::unary l = 64 * l.room + 11

abbrev pub decreases-expression::cast : goal.decreases-expression::cast
decreases-expression::cast l = 64 * l.room

abbrev pub decreases-path::path : goal.decreases-path::path
decreases-path::path l = 64 * l.room + 10

abbrev pub decreases-path::parts : goal.decreases-path::parts
decreases-path::parts l = 64 * l.room + 8

abbrev pub decreases-path::part : goal.decreases-path::part
decreases-path::part l = 64 * l.room + 7

abbrev pub decreases-path::bracketed : goal.decreases-path::bracketed
decreases-path::bracketed l = 64 * l.room + 48

abbrev pub decreases-path::primary : goal.decreases-path::primary
decreases-path::primary l = 64 * l.room + 9

abbrev pub decreases-path::enclosed : goal.decreases-path::enclosed
decreases-path::enclosed l = 64 * l.room

abbrev pub decreases-path::named : goal.decreases-path::named
decreases-path::named l = 64 * l.room + 6

abbrev pub decreases-path::through_super : goal.decreases-path::through_super
decreases-path::through_super l = 64 * l.room + 6

abbrev pub decreases-path::creation : goal.decreases-path::creation
decreases-path::creation l = 64 * l.room + 6

abbrev pub decreases-path::filled : goal.decreases-path::filled
decreases-path::filled l = 64 * l.room + 5

abbrev pub decreases-list::arguments : goal.decreases-list::arguments
decreases-list::arguments l = 64 * l.room + 4

abbrev pub decreases-list::listed : goal.decreases-list::listed
decreases-list::listed l = 64 * l.room + 48

abbrev pub decreases-list::sizes : goal.decreases-list::sizes
decreases-list::sizes l = 64 * l.room + 5

abbrev pub decreases-list::size : goal.decreases-list::size
decreases-list::size l = 64 * l.room + 4

abbrev pub decreases-list::braces : goal.decreases-list::braces
decreases-list::braces l = 64 * l.room + 3

abbrev pub decreases-list::initials : goal.decreases-list::initials
decreases-list::initials l = 64 * l.room + 52

abbrev pub decreases-list::initial : goal.decreases-list::initial
decreases-list::initial l = 64 * l.room + 50

abbrev pub invariant-path::parts-loop-turn : goal.invariant-path::parts-loop-turn
invariant-path::parts-loop-turn l = record {
  forward : l.from ≤ l.at;
  reads : prepend [] (parts l.most l.input.text.now (below l.input.text.now l.room) (drop l.from l.input.tokens.now)) ≡ prepend l.parts.items (parts (l.most - l._turn) l.input.text.now (below l.input.text.now l.room) (drop l.at l.input.tokens.now));
}

abbrev pub invariant-list::listed-loop-turn : goal.invariant-list::listed-loop-turn
invariant-list::listed-loop-turn l = record {
  forward : l.from ≤ l.at;
  reads : prepend [] (listed l.most (readers l.input.text.now l.room) (drop l.from l.input.tokens.now)) ≡ prepend l.items.items (listed (l.most - l._turn) (readers l.input.text.now l.room) (drop l.at l.input.tokens.now));
}

abbrev pub invariant-list::initials-loop-turn : goal.invariant-list::initials-loop-turn
invariant-list::initials-loop-turn l = record {
  forward : l.from ≤ l.at;
  reads : prepend [] (initials l.most (readers l.input.text.now l.room) (drop l.from l.input.tokens.now)) ≡ prepend l.values.items (initials (l.most - l._turn) (readers l.input.text.now l.room) (drop l.at l.input.tokens.now));
}

abbrev pub invariant-list::sizes-loop-turn : goal.invariant-list::sizes-loop-turn
invariant-list::sizes-loop-turn l = record {
  forward : l.from + length l.sizes.items ≤ l.at;
  few : length l.sizes.items ≤ length l.input.tokens.now - l.from;
  reads : prepend [] (sizes l.most (below l.input.text.now l.room) (drop l.from l.input.tokens.now)) ≡ prepend l.sizes.items (sizes (l.most - l._turn) (below l.input.text.now l.room) (drop l.at l.input.tokens.now));
}

abbrev pub decreases-expression::level-operands : goal.decreases-expression::level-operands
decreases-expression::level-operands l = (length l.input.tokens.now + 1) - l.place

abbrev pub invariant-expression::level-operands : goal.invariant-expression::level-operands
invariant-expression::level-operands l = record {
  forward : l.at ≤ l.place;
  reads : level_at l.input.text.now l.room l.height (drop l.at l.input.tokens.now) ≡ resumed l.input.text.now l.room l.waiting.items (level_at l.input.text.now l.room l.wanted (drop l.place l.input.tokens.now));
}
