-- The log and the parts stand for the history with the entry that was done.
use Rattle.std.proofs.Common.{◌≡◌, ◌<◌, ◌≤◌, ◌+◌, rules, length, min, vec_capacity, ap, subst, ◌∙◌, arith}
use Rattle.jsh_snippet.specs.declared.acts.Entry.{Entry}
use Rattle.jsh_core.specs.State.{State, Stepped}
use Rattle.jsh_core.specs.Step.{act_step, step}
use Rattle.jsh_core.specs.History.{act_bytes, state_of, Allows}
use Rattle.jsh_core.proofs.ByteLemmas.{bytes-fit, bytes-kept}
use Rattle.jsh_core.proofs.CauseLemmas.{reply-causes}
use Rattle.jsh_core.proofs.DeliveryLemmas.{IsReplied, replied-done}
use Rattle.jsh_core.proofs.KeptLemmas.{IsRoomy, StandsFor-cut, StandsFor-kept}
use Rattle.jsh_core.proofs.ActLemmas.{served-allowed}
use Rattle.jsh_core.proofs.StandsLemmas.{IsLonger, IsWithin-more, room-for}
use Rattle.jsh_core.proofs.engine.Core.apply.Goals as goal

pub push_entry-requires-clause-room : goal.push_entry-requires-clause-room
push_entry-requires-clause-room g c =
    let allowed : Allows c.self.inside.log.history.items c.args.entry = rw c.self.view_is c.requires in
    let room : length c.make_room.new.log.history.items + 1 ≤ vec_capacity c.make_room.new.log.history =
    room-for c.self.inside.log c.make_room.new.log c.self.inside.parts c.args.entry c.self.invariant allowed c.make_room.ensures.items c.make_room.ensures.capacity c.in_ok-make_room.ensures.room in
    omega (arith, c.make_room.new.log.history.ok.0, room)

pub push_entry-requires-clause-few : goal.push_entry-requires-clause-few
push_entry-requires-clause-few g c =
    let allowed : Allows c.self.inside.log.history.items c.args.entry = rw c.self.view_is c.requires in
    let same : act_bytes c.kept_entry.result.act ≡ act_bytes c.args.entry.act =
    ap (λ (e : Entry). act_bytes e.act) c.kept_entry.ensures ∙ bytes-kept c.args.entry.act c.deliver-reply.result.body in
    let fits : c.self.inside.log.bytes + act_bytes c.args.entry.act < 18446744073709551616 =
    bytes-fit c.self.inside.log.history.items c.args.entry.client c.args.entry.act c.self.inside.log.bytes c.self.invariant.bytes (search rules) allowed.may in
    omega (arith, same, fits, c.make_room.ensures.bytes)

pub perform-requires-clause-within : goal.perform-requires-clause-within
perform-requires-clause-within g c =
    let few : min (length c.self.inside.log.history.items) 4194304 ≤ 4194304 = omega arith in
    IsWithin-more _ _ _ few c.self.invariant.within

pub invariant_of-self-in-Ok : goal.invariant_of-self-in-Ok
invariant_of-self-in-Ok g c =
    let allowed : Allows c.self.inside.log.history.items c.args.entry = rw c.self.view_is c.requires in
    let roomy : IsRoomy c.self.inside.log c.make_room.new.log c.args.entry.act = record {
      items = c.make_room.ensures.items;
      bytes = c.make_room.ensures.bytes;
      closed = c.make_room.ensures.closed;
      capacity = c.make_room.ensures.capacity;
      room = c.in_ok-make_room.ensures.room;
    } in
    let longer : IsLonger c.make_room.new.log c.push_entry.new.log c.kept_entry.result = record {
      items = c.push_entry.ensures.items;
      capacity = c.push_entry.ensures.capacity;
      bytes = c.push_entry.ensures.bytes;
      closed = c.push_entry.ensures.closed;
    } in
    let replied : IsReplied c.self.inside.parts c.deliver-reply.new.parts c.args.entry.client c.args.entry.act c.deliver-reply.result =
    replied-done c.self.inside.parts c.perform.new.parts c.deliver-reply.new.parts c.args.entry.client c.args.entry.act c.in-Ok.body c.deliver-reply.result
    c.in-Ok.ensures.done c.deliver-reply.ensures.step c.deliver-reply.ensures.sound c.deliver-reply.ensures.within in
    StandsFor-kept c.self.inside.log c.make_room.new.log c.push_entry.new.log c.args.entry c.self.inside.parts c.deliver-reply.new.parts c.deliver-reply.result c.self.invariant allowed roomy
    (subst (λ (e : Entry). IsLonger c.make_room.new.log c.push_entry.new.log e) c.kept_entry.ensures longer) replied

pub invariant_of-self-then-cut-gt0 : goal.invariant_of-self-then-cut-gt0
invariant_of-self-then-cut-gt0 g c =
    let allowed : Allows c.self.inside.log.history.items c.args.entry = rw c.self.view_is c.requires in
    let roomy : IsRoomy c.self.inside.log c.make_room.new.log c.args.entry.act = record {
      items = c.make_room.ensures.items;
      bytes = c.make_room.ensures.bytes;
      closed = c.make_room.ensures.closed;
      capacity = c.make_room.ensures.capacity;
      room = c.in_ok-make_room.ensures.room;
    } in
    let longer : IsLonger c.make_room.new.log c.push_entry-then-cut-gt0.new.log c.with_steps.result = record {
      items = c.push_entry-then-cut-gt0.ensures.items;
      capacity = c.push_entry-then-cut-gt0.ensures.capacity;
      bytes = c.push_entry-then-cut-gt0.ensures.bytes;
      closed = c.push_entry-then-cut-gt0.ensures.closed;
    } in
    StandsFor-cut c.self.inside.log c.make_room.new.log c.push_entry-then-cut-gt0.new.log c.args.entry c.self.inside.parts c.perform.new.parts c.in-Err.cut.done c.self.invariant allowed roomy
    (subst (λ (e : Entry). IsLonger c.make_room.new.log c.push_entry-then-cut-gt0.new.log e) c.with_steps.ensures longer) c.if-cut-gt0.true c.in-Err.ensures.cut

pub returns-in-Ok-clause-causes : goal.returns-in-Ok-clause-causes
returns-in-Ok-clause-causes g c =
    let replied : IsReplied c.self.inside.parts c.deliver-reply.new.parts c.args.entry.client c.args.entry.act c.deliver-reply.result =
    replied-done c.self.inside.parts c.perform.new.parts c.deliver-reply.new.parts c.args.entry.client c.args.entry.act c.in-Ok.body c.deliver-reply.result
    c.in-Ok.ensures.done c.deliver-reply.ensures.step c.deliver-reply.ensures.sound c.deliver-reply.ensures.within in
    reply-causes c.args.self.now c.args.entry c.deliver-reply.result c.requires c.perform.ensures.utf8
    (ap (λ (s : Stepped). s.reply) replied.step
    ∙ ap (λ (s : State). (step s c.args.entry).reply) (c.self.invariant.state ∙ ap state_of c.self.view_is))
