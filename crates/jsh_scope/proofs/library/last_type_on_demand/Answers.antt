use Rattle.std.proofs.Common.{◌≡◌, Option, sym, ◌∙◌, ap}
use Rattle.std.specs.Option.{option_or}
use Rattle.jsh_scope.specs.declared.answers.TypeAnswer.{TypeAnswer}
use Rattle.jsh_scope.specs.Imports.{type_on_demand}
use Rattle.jsh_scope.proofs.Importing.{last_more}
use Rattle.jsh_scope.proofs.library.last_type_on_demand.Goals as goal

pub loop-import-preserved : goal.loop-import-preserved
loop-import-preserved c =
    c.or-last.ensures
    ∙ ap (λ (first : Option TypeAnswer). option_or first c.loop-import.last) c.type_on_demand.ensures
    ∙ ap (λ (last : Option TypeAnswer). option_or (type_on_demand c.args.library.now c.args.name.now c.import-item.result) last) c.loop-import.invariant
    ∙ sym (last_more (type_on_demand c.args.library.now c.args.name.now) c.args.imports.now c.loop-import.import-index c.import-item.result c.loop-import-test.true c.import-item.is)
