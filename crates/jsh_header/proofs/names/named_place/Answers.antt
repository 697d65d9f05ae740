use Rattle.std.proofs.Common.{◌≡◌, ℕ, ◌+◌, Bool, List, length, sym, ◌∙◌, ap, arith}
use Rattle.std.specs.Prelude.{option_map}
use Rattle.std.specs.List.{position_from}
use Rattle.jsh_scope.specs.Imports.{is_named}
use Rattle.jsh_header.proofs.Positions.{position_here, position_later, position_none}
use Rattle.jsh_header.proofs.names.named_place.Goals as goal

pub returns-then-is_named : goal.returns-then-is_named
returns-then-is_named c =
    ap (option_map (λ (place : ℕ). c.args.behind + place))
    (sym (position_here (is_named c.args.qualifier.now c.args.name.now) c.as_slice-types.result.now c.loop-place.place c.index-types-place.result c.loop-place-test.true c.index-types-place.is (sym c.is_named.ensures ∙ c.if-is_named.true))
    ∙ c.loop-place.invariant ∙ ap (position_from (is_named c.args.qualifier.now c.args.name.now) 0) c.as_slice-types.ensures)

pub loop-place-preserved : goal.loop-place-preserved
loop-place-preserved c =
    sym (position_later (is_named c.args.qualifier.now c.args.name.now) c.as_slice-types.result.now c.loop-place.place c.index-types-place.result c.loop-place-test.true c.index-types-place.is (sym c.is_named.ensures ∙ c.if-is_named.false))
    ∙ c.loop-place.invariant

pub returns : goal.returns
returns c =
    ap (option_map (λ (place : ℕ). c.args.behind + place))
    (sym (position_none (is_named c.args.qualifier.now c.args.name.now) c.as_slice-types.result.now c.loop-place.place (omega (arith, c.loop-place-test.false)))
    ∙ c.loop-place.invariant ∙ ap (position_from (is_named c.args.qualifier.now c.args.name.now) 0) c.as_slice-types.ensures)
