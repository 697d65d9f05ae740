use Rattle.std.proofs.Common.{◌≡◌, ◌∙◌, ◌++◌, ◌∷◌, [], ℕ, List, false, ap, sym}
use Rattle.jsh_cut.specs.Commands.{by_text, ends_before}
use Rattle.jsh_cut.proofs.Lines.{line_text}
use Rattle.jsh_cut.proofs.cut_first.Goals as goal

pub returns-in_ok-with_line : goal.returns-in_ok-with_line
returns-in_ok-with_line c =
    let line = c.args.line.now in
    let goes_on : ends_before line ≡ false = sym c.ends_before.ensures ∙ c.if-ends_before.false in
    ap by_text (c.in_ok-with_line.ensures ∙ ap (λ (t : List ℕ). t ++ (line ++ 10 ∷ [])) c.in_ok-text.ensures) ∙ line_text line goes_on
