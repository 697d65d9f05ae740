use Rattle.jsh_header.specs.SuperRules.{at_index}
use Rattle.jsh_header.proofs.Positions.{range_step}
use Rattle.jsh_header.proofs.rules.push_at_indexes.Goals as goal

pub loop-index-preserved : goal.loop-index-preserved
loop-index-preserved c =
    let firsts = c.args.firsts.now in
    range_step (at_index firsts.no_superclass firsts.no_interface firsts.back) c.loop-index.index c.args.breaches.now.items c.loop-index.breaches.items c.push_at_index.new.breaches.items c.loop-index.invariant c.in_ok-push_at_index.ensures
