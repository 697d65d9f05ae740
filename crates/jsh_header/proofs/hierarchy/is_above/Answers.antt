use Rattle.std.proofs.Common.{◌≡◌, ℕ, List, [], ◌∷◌, map, ◌∙◌, ap, subst}
use Rattle.jsh_closure.specs.Closure.{is_among}
use Rattle.jsh_closure.specs.Finding.{IsFound}
use Rattle.jsh_header.specs.Tables.{direct_of}
use Rattle.jsh_header.proofs.Alike.{same_above}
use Rattle.jsh_header.proofs.hierarchy.is_above.Goals as goal

pub returns-clause-above : goal.returns-clause-above
returns-clause-above c =
    let types = c.args.types.now in
    let found : IsFound (c.args.other ∷ []) (map direct_of types) c.in_ok-above.above.items =
    subst (λ (edges : List (List ℕ)). IsFound (c.args.other ∷ []) edges c.in_ok-above.above.items) c.requires c.in_ok-above.ensures.found in
    c.is_among.ensures
    ∙ ap (λ (places : List ℕ). is_among places c.args.place) c.as_slice.ensures.value
    ∙ same_above types (c.args.other ∷ []) c.in_ok-above.above.items found c.args.place
