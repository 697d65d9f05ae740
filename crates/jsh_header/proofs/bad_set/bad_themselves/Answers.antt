use Rattle.std.proofs.Common.{◌≡◌, List, Option, ◌||◌, length, sym, ◌∙◌, ap, arith}
use Rattle.std.specs.Prelude.{slice_get}
use Rattle.std.specs.Option.{option_copied}
use Rattle.std.specs.List.{filter, range_with_len}
use Rattle.jsh_tree.specs.declared.library.Member.{Member}
use Rattle.jsh_scope.specs.Scope.{Scope}
use Rattle.jsh_header.specs.SuperRules.{breaches_at, is_nonempty}
use Rattle.jsh_header.specs.Bad.{is_bad_itself, lacks_at}
use Rattle.jsh_header.proofs.Closing.{filter_step}
use Rattle.jsh_header.proofs.bad_set.bad_themselves.Goals as goal

pub loop-place-preserved : goal.loop-place-preserved
loop-place-preserved c =
    let scope = c.args.hierarchy.now in
    let place = c.loop-place.place in
    let member = option_copied c.member_at.result in
    let bad_is : c.in_ok-bad.bad ≡ is_bad_itself scope place =
    c.in_ok-bad.ensures.bad
    ∙ ap (λ (some : Scope). lacks_at some member || is_nonempty (breaches_at some place member)) c.loop-place.invariant.kept
    ∙ ap (λ (one : Option Member). lacks_at scope one || is_nonempty (breaches_at scope place one)) (c.member_at.ensures ∙ ap (λ (live : List Member). slice_get live place) (sym c.requires)) in
    record {
      kept = c.is_bad_itself.ensures.kept ∙ c.loop-place.invariant.kept;
      found = filter_step (is_bad_itself scope) place c.in_ok-bad.bad c.loop-place.places.items c.push_if.new.places.items c.loop-place.invariant.found bad_is c.in_ok-push_if.ensures;
    }
