use Rattle.std.proofs.Common.{◌≡◌, ℕ, List, sym, ◌∙◌, ap, subst, flat_map}
use Rattle.std.specs.Prelude.{slice_get}
use Rattle.std.specs.Option.{option_to_list}
use Rattle.std.specs.List.{filter}
use Rattle.jsh_tree.specs.declared.library.Member.{Member}
use Rattle.jsh_closure.specs.Closure.{places_at}
use Rattle.jsh_scope.specs.Scope.{Scope, is_visible_method}
use Rattle.jsh_scope.specs.Reached.{visible_types}
use Rattle.jsh_scope.specs.Indexes.{found}
use Rattle.jsh_scope.specs.Answers.{method_of, method_at}
use Rattle.jsh_scope.proofs.Places.{flat_map_twice}
use Rattle.jsh_scope.proofs.env.Env.live_methods.Goals as goal

pub returns : goal.returns
returns c =
    let members = c.args.self.now.members in
    let types = visible_types members in
    let name = c.args.name.now in
    let same : c.self.inside.members ≡ members = ap (λ (scope : Scope). scope.members) c.self.view_is in
    let places : c.places_found-places.result.now ≡ places_at (found c.self.inside.methods name) = c.places_found-places.ensures ∙ ap places_at c.get.ensures.value in
    let listed : flat_map (λ (place : ℕ). option_to_list (slice_get members place)) (places_at (found c.self.inside.methods name)) ≡ filter (is_visible_method name) members =
    subst (λ (some : List Member). flat_map (λ (place : ℕ). option_to_list (slice_get some place)) (places_at (found c.self.inside.methods name)) ≡ filter (is_visible_method name) some) same (c.self.invariant.0.methods_are.places name) in
    c.in_ok-methods.ensures
    ∙ ap (flat_map (method_at types members)) places
    ∙ flat_map_twice (method_of types) (λ (place : ℕ). option_to_list (slice_get members place)) (places_at (found c.self.inside.methods name))
    ∙ ap (flat_map (method_of types)) listed
