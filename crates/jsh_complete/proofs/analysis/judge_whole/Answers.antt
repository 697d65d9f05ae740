use Rattle.std.proofs.Common.{sym, ◌∙◌, inr}
use Rattle.jsh_recognizer.specs.Recognizing.{kinds}
use Rattle.jsh_complete.proofs.Behind.{stops_whole, open_not_whole, open_goes_on, else_goes_on}
use Rattle.jsh_complete.proofs.Given.{given_empty, given_else, given_whole, given_semicolon, given_more}
use Rattle.jsh_complete.proofs.Judged.{no_kinds, some_kinds}
use Rattle.jsh_complete.proofs.analysis.judge_whole.Goals as goal

pub returns-then-is_empty : goal.returns-then-is_empty
returns-then-is_empty c = given_empty (kinds c.args.tokens.now) (no_kinds c.args.tokens.now c.is_empty.result c.is_empty.ensures c.if-is_empty.true)

pub returns-then-may_come : goal.returns-then-may_come
returns-then-may_come c =
    let ks = kinds c.args.tokens.now in
    let may = c.if-may_come.ensures ks c.requires in
    given_else ks (some_kinds c.args.tokens.now c.is_empty.result c.is_empty.ensures c.if-is_empty.false)
    (stops_whole ks c.requires (sym c.is_whole.ensures ∙ c.if-is_whole.true)) (else_goes_on may.0 ks may.1)

pub returns-else-may_come : goal.returns-else-may_come
returns-else-may_come c =
    let ks = kinds c.args.tokens.now in
    given_whole ks (some_kinds c.args.tokens.now c.is_empty.result c.is_empty.ensures c.if-is_empty.false)
    (stops_whole ks c.requires (sym c.is_whole.ensures ∙ c.if-is_whole.true)) (λ may. c.if-may_come.ensures ks c.requires (may.0, inr may.1))

pub returns-then-lacks_semicolon : goal.returns-then-lacks_semicolon
returns-then-lacks_semicolon c =
    let ks = kinds c.args.tokens.now in
    given_semicolon ks (some_kinds c.args.tokens.now c.is_empty.result c.is_empty.ensures c.if-is_empty.false)
    (open_not_whole ks c.requires (sym c.is_whole.ensures ∙ c.if-is_whole.false)) (c.if-lacks_semicolon.ensures ks c.requires)

pub returns-else-lacks_semicolon : goal.returns-else-lacks_semicolon
returns-else-lacks_semicolon c =
    let ks = kinds c.args.tokens.now in
    let open_yet = sym c.is_whole.ensures ∙ c.if-is_whole.false in
    given_more ks (some_kinds c.args.tokens.now c.is_empty.result c.is_empty.ensures c.if-is_empty.false) (open_not_whole ks c.requires open_yet)
    (c.if-lacks_semicolon.ensures ks c.requires) (open_goes_on ks c.requires open_yet)
