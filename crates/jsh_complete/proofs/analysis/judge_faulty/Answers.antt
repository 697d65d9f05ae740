use Rattle.std.proofs.Common.{inl, inr, sym, subst}
use Rattle.jsh_recognizer.specs.Recognizing.{kinds}
use Rattle.jsh_complete.specs.declared.completion.Completeness.TheVariants as completeness
use Rattle.jsh_complete.specs.Completeness.{at_fault}
use Rattle.jsh_complete.specs.Reading.{IsGiven}
use Rattle.jsh_complete.proofs.Given.{NoneBefore, given_comment, closed_comment, other_fault, begun}
use Rattle.jsh_complete.proofs.analysis.judge_faulty.Goals as goal

pub returns-then-is_open : goal.returns-then-is_open
returns-then-is_open c =
    let ks = kinds c.args.tokens.now in
    subst (λ f. IsGiven ks (at_fault f) completeness.DefinitelyIncomplete) (sym c.in-OpenComment.is) (given_comment ks c.if-is_open.ensures)

pub returns-else-is_open : goal.returns-else-is_open
returns-else-is_open c =
    let ks = kinds c.args.tokens.now in
    let none = subst (λ f. NoneBefore ks (at_fault f)) (sym c.in-OpenComment.is)
    (closed_comment ks (λ none. c.if-is_open.ensures (inl none)) (λ may. c.if-is_open.ensures (inr may))) in
    begun c.args.tokens.now (at_fault c.args.fault) c.args.longest c.begun.result none c.requires.longest c.begun.ensures.some c.begun.ensures.none

pub returns-in_default : goal.returns-in_default
returns-in_default c =
    let none = other_fault (kinds c.args.tokens.now) c.args.fault c.in_default.not-OpenComment in
    begun c.args.tokens.now (at_fault c.args.fault) c.args.longest c.begun-in_default.result none c.requires.longest c.begun-in_default.ensures.some
    c.begun-in_default.ensures.none
