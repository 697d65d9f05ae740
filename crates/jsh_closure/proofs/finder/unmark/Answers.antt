use Rattle.std.proofs.Common.{arith}
use Rattle.jsh_closure.proofs.Listing.{unmark_more, unmark_all}
use Rattle.jsh_closure.proofs.finder.unmark.Goals as goal

pub loop-place-preserved : goal.loop-place-preserved
loop-place-preserved c = unmark_more c.args.places.now c.loop-place.place-index c.loop-place.marks.items c.unmark_one.new.marks.items c.loop-place-test.true c.loop-place.invariant c.unmark_one.ensures

pub returns : goal.returns
returns c = unmark_all c.args.places.now c.loop-place.place-index c.loop-place.marks.items (omega (arith, c.loop-place-test.false)) c.loop-place.invariant
