use Rattle.std.proofs.Common.{List, ◌++◌, Option, ◌∙◌, ap}
use Rattle.jsh_header.specs.declared.outlines.Outline.{Outline}
use Rattle.jsh_header.specs.SuperRules.{methods_at}
use Rattle.jsh_header.proofs.Positions.{methods_step}
use Rattle.jsh_header.proofs.hierarchy.methods_at_all.Goals as goal

pub loop-place-preserved : goal.loop-place-preserved
loop-place-preserved c =
    let methods = c.loop-place.methods.items in
    methods_step c.args.types.now c.args.places.now c.loop-place.place-index methods c.push_methods_at.new.methods.items c.loop-place-test.true c.loop-place.invariant
    (c.in_ok-push_methods_at.ensures ∙ ap (λ (of : Option Outline). methods ++ methods_at of) c.outline_at.ensures)
