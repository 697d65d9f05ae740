use Rattle.std.proofs.Common.{◌∙◌, ℕ, List, ap, subst}
use Rattle.jsh_cut.specs.declared.command.Command.TheVariants as command
use Rattle.jsh_cut.specs.Commands.{by_text, first_source, with_command}
use Rattle.jsh_cut.specs.Remainders.{IsFirst, Splits}
use Rattle.jsh_cut.proofs.Cuttings.{by_complete}
use Rattle.jsh_cut.proofs.cutting.next_left.Goals as goal

pub returns-in-First : goal.returns-in-First
returns-in-First c =
    let text = c.args.text in
    let is : IsFirst text c.in-First.source c.in-First.left = subst (Splits text) c.in-First.is c.in_ok-source.ensures in
    ap (λ (s : List ℕ). with_command (command.Eval s) (by_text c.in-First.left)) is.first
    ∙ ap (λ (r : List ℕ). with_command (command.Eval (first_source text)) (by_text r)) is.behind ∙ by_complete text is.spelled is.kind
