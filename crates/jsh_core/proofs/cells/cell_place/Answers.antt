-- One place more is looked at.
use Rattle.std.proofs.Common.{◌≡◌, ℕ, ◌+◌, ◌-◌, ◌<◌, length, take, sym, subst, ◌∙◌, arith}
use Rattle.jsh_core.specs.Cells.{cell_place}
use Rattle.jsh_core.proofs.CellLemmas.{cell_place-before, cell_place-found}
use Rattle.jsh_core.proofs.cells.cell_place.Goals as goal

pub returns-then-eq-clause-place : goal.returns-then-eq-clause-place
returns-then-eq-clause-place c =
    let at : c.loop-rest.rest ≡ (c.loop-rest.rest - 1) + 1 = omega arith in
    let within : c.loop-rest.rest - 1 < length c.args.cells.now = omega arith in
    let found : cell_place c.args.link.now c.args.cells.now ≡ cell_place c.args.link.now (take ((c.loop-rest.rest - 1) + 1) c.args.cells.now) =
    subst (λ (n : ℕ). cell_place c.args.link.now c.args.cells.now ≡ cell_place c.args.link.now (take n c.args.cells.now)) at c.loop-rest.invariant.found in
    sym (cell_place-found c.args.link.now c.args.cells.now (c.loop-rest.rest - 1) c.index-cells-rest.result within (sym c.eq.ensures ∙ c.if-eq.true) found)

pub loop-rest-preserved : goal.loop-rest-preserved
loop-rest-preserved c =
    let at : c.loop-rest.rest ≡ (c.loop-rest.rest - 1) + 1 = omega arith in
    let within : c.loop-rest.rest - 1 < length c.args.cells.now = omega arith in
    let found : cell_place c.args.link.now c.args.cells.now ≡ cell_place c.args.link.now (take ((c.loop-rest.rest - 1) + 1) c.args.cells.now) =
    subst (λ (n : ℕ). cell_place c.args.link.now c.args.cells.now ≡ cell_place c.args.link.now (take n c.args.cells.now)) at c.loop-rest.invariant.found in
    record {
      within = omega arith;
      found = cell_place-before c.args.link.now c.args.cells.now (c.loop-rest.rest - 1) c.index-cells-rest.result within (sym c.eq.ensures ∙ c.if-eq.false) found;
    }
