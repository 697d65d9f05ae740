use Rattle.std.proofs.Common.{◌≡◌, ℕ, List, map, sym, ◌∙◌, ap, subst}
use Rattle.std.specs.Prelude.{slice_get}
use Rattle.jsh_tree.specs.declared.key.Signature.{Signature}
use Rattle.jsh_closure.specs.Finding.{IsFound}
use Rattle.jsh_header.specs.SuperRules.{direct_at, methods_of, inherited}
use Rattle.jsh_header.specs.Tables.{AreAlike, direct_of}
use Rattle.jsh_header.proofs.Alike.{alike_found}
use Rattle.jsh_header.proofs.hierarchy.inherited.Goals as goal

pub returns-clause-methods : goal.returns-clause-methods
returns-clause-methods c =
    let types = c.args.types.now in
    let first = direct_at (slice_get types c.args.place) in
    let found : IsFound first (map direct_of types) c.in_ok-above.above.items =
    subst (λ (edges : List (List ℕ)). IsFound first edges c.in_ok-above.above.items) c.requires
    (subst (λ (places : List ℕ). IsFound places c.args.finder.now c.in_ok-above.above.items) c.direct_at.ensures c.in_ok-above.ensures.found) in
    subst (λ (methods : List Signature). AreAlike methods (inherited types c.args.place))
    (sym (c.in_ok-methods.ensures ∙ ap (λ (places : List ℕ). methods_of types places) c.as_slice.ensures.value))
    (alike_found types c.args.place c.in_ok-above.above.items found)
