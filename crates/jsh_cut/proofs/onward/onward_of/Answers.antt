use Rattle.std.proofs.Common.{◌≡◌, ◌∙◌, ℕ, false, Option, Some, ap, sym}
use Rattle.std.specs.Prelude.{is_some}
use Rattle.jsh_lex.specs.declared.lexeme.LexFault.{LexFault}
use Rattle.jsh_lex.specs.declared.lexeme.LexFault.TheVariants.{OpenComment}
use Rattle.jsh_lex.specs.Lexis.{tokens, behind_comment}
use Rattle.jsh_cut.proofs.Onwards.{goes_behind_line, goes_at_comment, goes_inside}
use Rattle.jsh_cut.proofs.onward.onward_of.Goals as goal

pub returns-then-ends_line : goal.returns-then-ends_line
returns-then-ends_line c =
    goes_behind_line c.args.text.now c.args.line.now c.utf8.text c.utf8.line (c.requires ∙ c.in-None.is) (sym c.ends_line.ensures ∙ c.if-ends_line.true)

pub returns-then-not-closes_comment : goal.returns-then-not-closes_comment
returns-then-not-closes_comment c =
    let here : LexFault → Option (LexFault × ℕ) = λ k. Some (k, c.in-Some.place) in
    let fault : (tokens c.args.text.now).fault ≡ Some (OpenComment, c.in-Some.place) = c.requires ∙ (c.in-Some.is ∙ ap here c.in-OpenComment.is) in
    let none : is_some (behind_comment c.args.line.now) ≡ false = sym c.closes_comment.ensures ∙ c.if-not-closes_comment.true in
    goes_inside c.args.text.now c.args.line.now c.in-Some.place c.utf8.text c.utf8.line fault
    (sym c.ends_line-in-OpenComment.ensures ∙ c.if-ends_line-2.true) none

pub returns-else-ends_line-2 : goal.returns-else-ends_line-2
returns-else-ends_line-2 c =
    let here : LexFault → Option (LexFault × ℕ) = λ k. Some (k, c.in-Some.place) in
    let fault : (tokens c.args.text.now).fault ≡ Some (OpenComment, c.in-Some.place) = c.requires ∙ (c.in-Some.is ∙ ap here c.in-OpenComment.is) in
    goes_at_comment c.args.text.now c.args.line.now c.in-Some.place c.utf8.text c.utf8.line fault
