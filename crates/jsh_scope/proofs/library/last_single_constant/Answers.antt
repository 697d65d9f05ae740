use Rattle.std.proofs.Common.{◌≡◌, Option, sym, ◌∙◌, ap}
use Rattle.std.specs.Option.{option_or}
use Rattle.jsh_scope.specs.declared.answers.VarAnswer.{VarAnswer}
use Rattle.jsh_scope.specs.Imports.{single_constant}
use Rattle.jsh_scope.proofs.Importing.{last_more}
use Rattle.jsh_scope.proofs.library.last_single_constant.Goals as goal

pub loop-import-preserved : goal.loop-import-preserved
loop-import-preserved c =
    c.or-last.ensures
    ∙ ap (λ (first : Option VarAnswer). option_or first c.loop-import.last) c.single_constant.ensures
    ∙ ap (λ (last : Option VarAnswer). option_or (single_constant c.args.library.now c.args.name.now c.import-item.result) last) c.loop-import.invariant
    ∙ sym (last_more (single_constant c.args.library.now c.args.name.now) c.args.imports.now c.loop-import.import-index c.import-item.result c.loop-import-test.true c.import-item.is)
