use Rattle.std.proofs.Common.{◌++◌, [], ◌∷◌, take, flat_map, ap, sym, ◌∙◌}
use Rattle.std.proofs.lemmas.List.{flat_map_more, take_more}
use Rattle.jsh_render.specs.Texts.{answer_line}
use Rattle.jsh_render.proofs.push_lines.Goals as goal

pub loop-line-preserved : goal.loop-line-preserved
loop-line-preserved c =
    let line = answer_line in
    let all = c.args.lines.now in
    let at = c.loop-line.line-index in
    let next = c.line-item.result in
    let old = c.args.bytes.now.items in
    c.in_ok-push_line.ensures ∙
    ap (λ bytes. bytes ++ line next) c.loop-line.invariant ∙
    flat_map_more line old (take at all) next ∙
    ap (λ read. old ++ flat_map line read) (ap (λ d. take at all ++ d ∷ []) c.line-item.is ∙ sym (take_more all at next c.loop-line-test.true))
