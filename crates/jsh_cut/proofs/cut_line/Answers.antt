use Rattle.std.proofs.Common.{◌≡◌, ◌∙◌, IfOk, true, false, ap, sym, subst}
use Rattle.jsh_cut.specs.declared.command.Command.TheVariants as command
use Rattle.jsh_cut.specs.declared.held.Held.{Held}
use Rattle.jsh_cut.specs.Commands.{Gives, by_line, by_text, cut_line, ends_before, source_of, with_command}
use Rattle.jsh_cut.specs.Cuttings.{coming}
use Rattle.jsh_cut.proofs.Lines.{line_first, line_ends, line_more, line_on}
use Rattle.jsh_cut.proofs.cut_line.Goals as goal

pub returns-in-Nothing : goal.returns-in-Nothing
returns-in-Nothing c =
    let line = c.args.line.now in
    let first : by_line line ≡ cut_line c.args.held line = line_first line ∙ ap (λ (h : Held). cut_line h line) (sym c.in-Nothing.is) in
    subst (λ (g : Gives). IfOk c.cut_first.result (λ cutting. coming cutting ≡ g)) first c.cut_first.ensures

pub returns-in_ok-tail_of-in-MayEnd : goal.returns-in_ok-tail_of-in-MayEnd
returns-in_ok-tail_of-in-MayEnd c =
    let line = c.args.line.now in
    let text = c.in-MayEnd.text in
    let ends : ends_before line ≡ true = sym c.ends_before.ensures ∙ c.if-ends_before.true in
    ap (with_command (command.Eval (source_of text))) c.in_ok-tail_of-in-MayEnd.ensures ∙ line_ends text line ends
    ∙ ap (λ (h : Held). cut_line h line) (sym c.in-MayEnd.is)

pub returns-in_ok-with_line-in-MayEnd : goal.returns-in_ok-with_line-in-MayEnd
returns-in_ok-with_line-in-MayEnd c =
    let line = c.args.line.now in
    let text = c.in-MayEnd.text in
    let goes_on : ends_before line ≡ false = sym c.ends_before.ensures ∙ c.if-ends_before.false in
    ap by_text c.in_ok-with_line-in-MayEnd.ensures ∙ line_more text line goes_on ∙ ap (λ (h : Held). cut_line h line) (sym c.in-MayEnd.is)

pub returns-in_ok-with_line-in-MustGoOn : goal.returns-in_ok-with_line-in-MustGoOn
returns-in_ok-with_line-in-MustGoOn c =
    let line = c.args.line.now in
    let text = c.in-MustGoOn.text in
    ap by_text c.in_ok-with_line-in-MustGoOn.ensures ∙ line_on text line ∙ ap (λ (h : Held). cut_line h line) (sym c.in-MustGoOn.is)
