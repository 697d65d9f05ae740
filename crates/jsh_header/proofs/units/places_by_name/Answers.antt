use Rattle.std.proofs.Common.{◌≡◌, subst}
use Rattle.jsh_tree.specs.declared.library.Member.{Member}
use Rattle.jsh_scope.specs.Indexes.{AppendsPlace}
use Rattle.jsh_scope.proofs.Places.{all_more}
use Rattle.jsh_header.specs.Units.{has_name}
use Rattle.jsh_header.proofs.units.places_by_name.Goals as goal

pub loop-at-preserved : goal.loop-at-preserved
loop-at-preserved c =
    all_more has_name c.args.units.now c.loop-at.at c.index-units-at.result c.loop-at.places c.append_unit.new.places c.loop-at-test.true c.loop-at.invariant
    (subst (λ (unit : Member). AppendsPlace (λ name. has_name name unit) c.loop-at.at c.loop-at.places c.append_unit.new.places) c.index-units-at.is c.in_ok-append_unit.ensures)
