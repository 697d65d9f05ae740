use Rattle.std.proofs.Common.{◌≡◌, List, [], ◌∷◌, ◌++◌, sym, ◌∙◌, ap}
use Rattle.std.specs.List.{filter}
use Rattle.jsh_tree.specs.declared.library.Member.{Member}
use Rattle.jsh_scope.specs.Scope.{is_visible_type}
use Rattle.jsh_scope.proofs.Places.{filter_more}
use Rattle.jsh_scope.proofs.indexes.visible_types.Goals as goal

pub loop-member-preserved : goal.loop-member-preserved
loop-member-preserved c =
    c.in_ok-push_visible_type.ensures
    ∙ ap (λ (some : List Member). some ++ filter is_visible_type (c.member-item.result ∷ [])) c.loop-member.invariant
    ∙ sym (filter_more is_visible_type c.args.members.now c.loop-member.member-index c.member-item.result c.loop-member-test.true c.member-item.is)
