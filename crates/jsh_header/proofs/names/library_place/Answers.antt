use Rattle.std.proofs.Common.{◌≡◌, ℕ, ◌+◌, Bool, List, length, sym, ◌∙◌, ap, arith}
use Rattle.std.specs.Prelude.{option_map}
use Rattle.std.specs.List.{position_from}
use Rattle.jsh_tree.specs.declared.library.LibraryType.{LibraryType}
use Rattle.jsh_scope.specs.Scope.{same_name}
use Rattle.jsh_header.specs.Outlines.{library_place}
use Rattle.jsh_header.proofs.Positions.{position_here, position_later, position_none}
use Rattle.jsh_header.proofs.names.library_place.Goals as goal

pub returns-then-eq : goal.returns-then-eq
unfolding library_place
returns-then-eq c =
    ap (option_map (λ (place : ℕ). c.args.behind + place))
    (sym (position_here (λ (type : LibraryType). same_name type.name c.args.name.now) c.as_slice-types.result.now c.loop-place.place c.index-types-place.result c.loop-place-test.true c.index-types-place.is (sym c.eq.ensures ∙ c.if-eq.true))
    ∙ c.loop-place.invariant ∙ ap (position_from (λ (type : LibraryType). same_name type.name c.args.name.now) 0) c.as_slice-types.ensures)

pub loop-place-preserved : goal.loop-place-preserved
loop-place-preserved c =
    sym (position_later (λ (type : LibraryType). same_name type.name c.args.name.now) c.as_slice-types.result.now c.loop-place.place c.index-types-place.result c.loop-place-test.true c.index-types-place.is (sym c.eq.ensures ∙ c.if-eq.false))
    ∙ c.loop-place.invariant

pub returns : goal.returns
unfolding library_place
returns c =
    ap (option_map (λ (place : ℕ). c.args.behind + place))
    (sym (position_none (λ (type : LibraryType). same_name type.name c.args.name.now) c.as_slice-types.result.now c.loop-place.place (omega (arith, c.loop-place-test.false)))
    ∙ c.loop-place.invariant ∙ ap (position_from (λ (type : LibraryType). same_name type.name c.args.name.now) 0) c.as_slice-types.ensures)
