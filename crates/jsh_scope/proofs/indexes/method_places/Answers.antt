use Rattle.std.proofs.Common.{◌≡◌, sym, subst}
use Rattle.jsh_tree.specs.declared.library.Member.{Member}
use Rattle.jsh_scope.specs.Scope.{is_visible_method}
use Rattle.jsh_scope.specs.Indexes.{AppendsPlace}
use Rattle.jsh_scope.proofs.Places.{all_more}
use Rattle.jsh_scope.proofs.indexes.method_places.Goals as goal

pub loop-at-preserved : goal.loop-at-preserved
loop-at-preserved c =
    all_more is_visible_method c.args.members.now c.loop-at.at c.index-members-at.result c.loop-at.places c.append_method.new.places c.loop-at-test.true c.loop-at.invariant
    (subst (λ (member : Member). AppendsPlace (λ name. is_visible_method name member) c.loop-at.at c.loop-at.places c.append_method.new.places) c.index-members-at.is c.in_ok-append_method.ensures)
