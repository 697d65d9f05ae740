-- How many have the name decides.
use Rattle.std.proofs.Common.{◌≡◌, sym, arith, filter, length}
use Rattle.jsh_core.specs.Generations.{has_name}
use Rattle.jsh_core.proofs.DropLemmas.{drop_only-one, drop_only-other, found-one, length-filter_most}
use Rattle.jsh_core.proofs.drops.only_named.Goals as goal

pub returns-then-count-ne1-clause-other : goal.returns-then-count-ne1-clause-other
returns-then-count-ne1-clause-other c =
    λ s. rw c.count_named-count.ensures
    (drop_only-other s c.args.name.now (filter (has_name c.args.name.now) c.args.live.now) (λ one. omega (arith, c.count_named-count.ensures, one)))

pub returns-then-count-ne1-clause-few : goal.returns-then-count-ne1-clause-few
returns-then-count-ne1-clause-few c = rw c.count_named-count.ensures (length-filter_most (has_name c.args.name.now) c.args.live.now)

pub returns-in-None-clause-other : goal.returns-in-None-clause-other
returns-in-None-clause-other c =
    let one : length (filter (has_name c.args.name.now) c.args.live.now) ≡ 1 = omega (arith, c.count_named-count.ensures) in
    λ s. absurd (found-one (has_name c.args.name.now) c.args.live.now one (sym c.in-None.ensures))

pub returns-in-Some-clause-one : goal.returns-in-Some-clause-one
returns-in-Some-clause-one c =
    let one : length (filter (has_name c.args.name.now) c.args.live.now) ≡ 1 = omega (arith, c.count_named-count.ensures) in
    λ s. drop_only-one s c.args.name.now (has_name c.args.name.now) c.args.live.now c.in-Some.found.now one (sym c.in-Some.ensures)
