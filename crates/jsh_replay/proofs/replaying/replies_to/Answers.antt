-- The engine stands as the entries so far, and the one that follows may come.
use Rattle.std.specs.Vec.Iter.{into_iter_items}
use Rattle.jsh_replay.proofs.ReplayLaws.{alike-applied, next-allowed, replied, taken, taken-on}
use Rattle.jsh_replay.proofs.replaying.replies_to.Goals as goal

pub apply-requires : goal.apply-requires
apply-requires g c =
    let at = c.loop-entry in
    next-allowed at.core at.yielded (into_iter_items c.next.new.self) c.args.history.items c.in-Some.entry at.invariant.alike c.requires.legal
    (taken at.yielded (into_iter_items at.entry-iterator) (into_iter_items c.next.new.self) c.args.history.items c.in-Some.entry at.invariant.parts c.in-Some.ensures.steps.0)

pub loop-entry-preserved : goal.loop-entry-preserved
loop-entry-preserved g c =
    let at = c.loop-entry in
    record {
      alike = alike-applied at.core c.apply.new.self at.yielded c.in-Some.entry c.in_ok-reply.reply at.invariant.alike c.in_ok-reply.ensures.reply c.in_ok-reply.ensures.history;
      replies = replied at.core at.yielded c.in-Some.entry c.in_ok-reply.reply at.replies.items c.push.new.self.items at.invariant.alike c.in_ok-reply.ensures.reply at.invariant.replies
          c.in_ok-push.ensures.items;
      parts = taken-on at.yielded (into_iter_items at.entry-iterator) (into_iter_items c.next.new.self) c.args.history.items c.in-Some.entry at.invariant.parts c.in-Some.ensures.steps.0;
    }
