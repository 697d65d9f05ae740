use Rattle.std.proofs.Common.{◌++◌, take, get_or, flat_map, ap, sym, ◌∙◌}
use Rattle.std.proofs.lemmas.List.{flat_map_more, take_more}
use Rattle.jsh_tree.specs.declared.modifier.Modifier.TheVariants.{Public}
use Rattle.jsh_render.specs.Snippets.{warning_line}
use Rattle.jsh_render.proofs.snippets.push_warnings.Goals as goal

pub loop-modifier-preserved : goal.loop-modifier-preserved
loop-modifier-preserved c =
    let all = c.args.ignored.now in
    let at = c.loop-modifier.modifier-index in
    let next = get_or all at Public in
    let old = c.args.bytes.now.items in
    c.in_ok-push_warning.ensures ∙
    ap (λ bytes. bytes ++ warning_line next) c.loop-modifier.invariant ∙
    flat_map_more warning_line old (take at all) next ∙
    ap (λ read. old ++ flat_map warning_line read) (sym (take_more all at Public c.loop-modifier-test.true))
