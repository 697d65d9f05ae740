use Rattle.std.proofs.Common.{◌≡◌, ◌∙◌, ap}
use Rattle.jsh_scope.specs.Scope.{Scope, is_type}
use Rattle.jsh_scope.specs.Reached.{first_place}
use Rattle.jsh_scope.proofs.env.Env.type_place.Goals as goal

pub returns : goal.returns
returns c =
    c.copied.ensures
    ∙ c.get.ensures.value
    ∙ c.self.invariant.0.types_are.places c.args.name.now
    ∙ ap (λ (scope : Scope). first_place (is_type c.args.name.now) scope.members) c.self.view_is
