use Rattle.std.proofs.Common.{◌≡◌, ◌∙◌, ◌-◌, ap, take, arith}
use Rattle.jsh_lines.specs.Edges.{is_outer}
use Rattle.jsh_lines.proofs.Edges.{back_part}
use Rattle.jsh_lines.proofs.edge.before_back.Goals as goal

pub returns : goal.returns
returns c =
    let text = c.args.text.now in
    let none : c.last_place.result - 0 ≡ c.last_place.result = omega arith in
    c.range.ensures.value ∙ ap (λ n. take n text) (none ∙ c.last_place.ensures.value) ∙ back_part (is_outer c.args.edge) text
