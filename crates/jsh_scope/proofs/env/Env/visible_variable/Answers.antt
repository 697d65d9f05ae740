use Rattle.std.proofs.Common.{◌≡◌, sym, ◌∙◌, ap}
use Rattle.jsh_scope.specs.Scope.{Scope, is_visible_variable}
use Rattle.jsh_scope.specs.Reached.{first_place}
use Rattle.jsh_scope.specs.Answers.{member_at}
use Rattle.jsh_scope.proofs.Places.{member_found}
use Rattle.jsh_scope.proofs.env.Env.visible_variable.Goals as goal

pub returns : goal.returns
returns c =
    let members : c.self.inside.members ≡ c.args.self.now.members = ap (λ (scope : Scope). scope.members) c.self.view_is in
    c.member_at.ensures
    ∙ ap (member_at c.args.self.now.members) (c.get.ensures.value ∙ c.self.invariant.0.variables_are.places c.args.name.now ∙ ap (first_place (is_visible_variable c.args.name.now)) members)
    ∙ member_found (is_visible_variable c.args.name.now) c.args.self.now.members
