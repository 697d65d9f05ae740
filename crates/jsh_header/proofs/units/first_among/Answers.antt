use Rattle.std.proofs.Common.{◌≡◌, sym, ◌∙◌, ap, arith}
use Rattle.std.specs.Option.{option_to_list}
use Rattle.jsh_tree.specs.declared.library.Member.{Member}
use Rattle.std.proofs.Common.{Option}
use Rattle.jsh_header.specs.Replaced.{of_key}
use Rattle.jsh_header.proofs.Naming.{found_here, found_later, found_none}
use Rattle.jsh_header.proofs.units.first_among.Goals as goal

pub returns-in-Some : goal.returns-in-Some
returns-in-Some c =
    let units = c.args.units.now in
    let wanted = c.args.wanted.now in
    sym (found_here units wanted c.args.places.now c.loop-place.place-index c.in-Some.unit.now c.loop-place-test.true (c.in-Some.ensures ∙ ap (λ (one : Option Member). of_key wanted (option_to_list one)) c.member_at.ensures))
    ∙ c.loop-place.invariant

pub loop-place-preserved : goal.loop-place-preserved
loop-place-preserved c =
    let units = c.args.units.now in
    let wanted = c.args.wanted.now in
    sym (found_later units wanted c.args.places.now c.loop-place.place-index c.loop-place-test.true (c.in_default.ensures ∙ ap (λ (one : Option Member). of_key wanted (option_to_list one)) c.member_at.ensures))
    ∙ c.loop-place.invariant

pub returns : goal.returns
returns c = sym (found_none c.args.units.now c.args.wanted.now c.args.places.now c.loop-place.place-index (omega (arith, c.loop-place-test.false))) ∙ c.loop-place.invariant
