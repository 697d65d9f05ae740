use Rattle.std.proofs.Common.{◌≡◌, Option, ◌∙◌, ap}
use Rattle.jsh_tree.specs.declared.library.Member.{Member}
use Rattle.jsh_header.specs.Replaced.{is_new_at, is_new_place}
use Rattle.jsh_header.proofs.Closing.{filter_step}
use Rattle.jsh_header.proofs.replaced_set.new_places.Goals as goal

pub loop-place-preserved : goal.loop-place-preserved
loop-place-preserved c =
    let old = c.args.old.now in
    let new = c.args.new.now in
    let place = c.loop-place.place in
    filter_step (is_new_place old new) place c.is_new_at-is_new.result c.loop-place.places.items c.push_if.new.places.items c.loop-place.invariant
    (c.is_new_at-is_new.ensures ∙ ap (is_new_at old) c.member_at.ensures) c.in_ok-push_if.ensures
