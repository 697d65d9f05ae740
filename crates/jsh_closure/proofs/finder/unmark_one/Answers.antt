use Rattle.std.proofs.Common.{arith}
use Rattle.jsh_closure.proofs.Listing.{unmark_at, unmark_past}
use Rattle.jsh_closure.proofs.finder.unmark_one.Goals as goal

pub returns : goal.returns
returns c = unmark_at c.args.place c.args.marks.now.items (omega (arith, c.len.ensures))
