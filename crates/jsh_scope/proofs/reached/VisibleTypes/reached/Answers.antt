use Rattle.std.proofs.Common.{◌≡◌, List, ℕ, map, sym, ◌∙◌, ap, subst}
use Rattle.jsh_tree.specs.declared.library.Member.{Member}
use Rattle.jsh_closure.specs.Closure.{marks}
use Rattle.jsh_scope.specs.Reached.{places_in, marked_types}
use Rattle.jsh_scope.proofs.Reaching.{reached_marked}
use Rattle.jsh_scope.proofs.reached.VisibleTypes.reached.Goals as goal

pub returns : goal.returns
returns c =
    let types = c.args.self.now in
    let header = c.args.header.now in
    let seen : c.self.inside.types ≡ types = c.self.view_is in
    let edges = c.self.inside.edges in
    let edges_are : edges ≡ map (λ (type : Member). places_in types type.header) types =
    subst (λ (some : List Member). edges ≡ map (λ (type : Member). places_in some type.header) some) seen c.self.invariant.edges_are in
    let found : c.in_ok-marks.marks.items ≡ marks (places_in types header) edges =
    c.in_ok-marks.ensures.marks
    ∙ ap (λ (first : List ℕ). marks first c.as_slice-3.result.now) (c.as_slice-2.ensures ∙ c.in_ok-first.ensures ∙ ap (λ (some : List Member). places_in some header) (c.as_slice.ensures ∙ seen))
    ∙ ap (λ (some : List (List ℕ)). marks (places_in types header) some) c.as_slice-3.ensures in
    c.in_ok-found.ensures ∙ ap (marked_types types) c.as_slice-4.ensures.value ∙ reached_marked types header edges c.in_ok-marks.marks.items edges_are found
