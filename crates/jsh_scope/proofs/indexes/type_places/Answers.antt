use Rattle.std.proofs.Common.{◌≡◌, sym, subst}
use Rattle.jsh_tree.specs.declared.library.Member.{Member}
use Rattle.jsh_scope.specs.Scope.{is_type}
use Rattle.jsh_scope.specs.Indexes.{AddsPlace}
use Rattle.jsh_scope.proofs.Places.{index_none, index_more}
use Rattle.jsh_scope.proofs.indexes.type_places.Goals as goal

pub loop-at-init : goal.loop-at-init
loop-at-init c = index_none is_type c.new-places.result c.new-places.ensures.empty

pub loop-at-preserved : goal.loop-at-preserved
loop-at-preserved c =
    index_more is_type c.args.members.now c.loop-at.at c.index-members-at.result c.loop-at.places c.add_type.new.places c.loop-at-test.true c.loop-at.invariant
    (subst (λ (member : Member). AddsPlace (λ name. is_type name member) c.loop-at.at c.loop-at.places c.add_type.new.places) c.index-members-at.is c.in_ok-add_type.ensures)
