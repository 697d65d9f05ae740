use Rattle.jsh_cut.proofs.Onwards.{fits_at}
use Rattle.jsh_cut.proofs.onward.add_moved.Goals as goal

pub moved-requires-clause-from : goal.moved-requires-clause-from
moved-requires-clause-from c = (fits_at c.args.by c.args.more.now c.loop-token.token-index _ c.requires c.loop-token-test.true).0

pub moved-requires-clause-to : goal.moved-requires-clause-to
moved-requires-clause-to c = (fits_at c.args.by c.args.more.now c.loop-token.token-index _ c.requires c.loop-token-test.true).1
