use Rattle.std.proofs.Common.{◌++◌, [], ◌∷◌, take, flat_map, ap, sym, ◌∙◌}
use Rattle.std.proofs.lemmas.List.{flat_map_more, take_more}
use Rattle.jsh_render.specs.Diagnostics.{error_line}
use Rattle.jsh_render.proofs.snippets.push_errors.Goals as goal

pub loop-diagnostic-preserved : goal.loop-diagnostic-preserved
loop-diagnostic-preserved c =
    let line = error_line c.args.source.now in
    let all = c.args.diagnostics.now in
    let at = c.loop-diagnostic.diagnostic-index in
    let next = c.diagnostic-item.result in
    let old = c.args.bytes.now.items in
    c.in_ok-push_error.ensures ∙
    ap (λ bytes. bytes ++ line next) c.loop-diagnostic.invariant ∙
    flat_map_more line old (take at all) next ∙
    ap (λ read. old ++ flat_map line read) (ap (λ d. take at all ++ d ∷ []) c.diagnostic-item.is ∙ sym (take_more all at next c.loop-diagnostic-test.true))
