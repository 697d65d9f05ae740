use Rattle.std.proofs.Common.{◌≡◌, ◌∙◌, ap, drop}
use Rattle.jsh_lines.specs.Edges.{is_outer}
use Rattle.jsh_lines.proofs.Edges.{front_part}
use Rattle.jsh_lines.proofs.edge.behind_front.Goals as goal

pub returns : goal.returns
returns c =
    let text = c.args.text.now in
    c.range_from.ensures.value ∙ ap (λ n. drop n text) c.first_place.ensures.value ∙ front_part (is_outer c.args.edge) text
