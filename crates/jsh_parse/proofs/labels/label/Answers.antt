use Rattle.std.proofs.Common.{◌+◌, drop, sym, ◌∙◌, arith}
use Rattle.jsh_parse.specs.Reader.{accept}
use Rattle.jsh_parse.specs.Marks.{is_colon}
use Rattle.jsh_parse.specs.StatementReading.{label_at, case_at}
use Rattle.jsh_parse.proofs.Passing.{hands_on, refuses, as_read}
use Rattle.jsh_parse.proofs.LabelOnward.{label_nowhere, label_default, label_wrong, label_case}
use Rattle.jsh_parse.proofs.labels.label.Goals as goal

pub returns-in_default : goal.returns-in_default
returns-in_default c =
    let tokens = c.args.input.now.tokens.now in
    let text = c.args.input.now.text.now in
    let here = drop c.args.at tokens in
    refuses tokens c.args.at (label_at text here) c.refuse.result c.refuse.ensures (label_nowhere text here c.in_default.ensures.found)

pub returns-in_err-end : goal.returns-in_err-end
returns-in_err-end c =
    let tokens = c.args.input.now.tokens.now in
    let text = c.args.input.now.text.now in
    let here = drop c.args.at tokens in
    let rest = drop (c.args.at + 1) tokens in
    hands_on tokens (c.args.at + 1) c.args.at (label_at text here)
    (accept is_colon rest)
    c.in_err-end.field-0.0 c.from_residual.result c.from_residual.ensures.1
    (λ n. label_default text here rest c.in-Some.token c.in-Some.ensures.found (sym c.if-is_default.ensures) ∙ simp n) c.in_err-end.ensures

pub returns-then-is_default : goal.returns-then-is_default
returns-then-is_default c =
    let tokens = c.args.input.now.tokens.now in
    let text = c.args.input.now.text.now in (
      omega (arith, c.in_ok-end.ensures.0),
      label_default text (drop c.args.at tokens) (drop (c.args.at + 1) tokens) c.in-Some.token c.in-Some.ensures.found (sym c.if-is_default.ensures) ∙
          simp c.in_ok-end.ensures.1,
    )

pub returns-then-not-is_case : goal.returns-then-not-is_case
returns-then-not-is_case c =
    let tokens = c.args.input.now.tokens.now in
    let text = c.args.input.now.text.now in
    let here = drop c.args.at tokens in
    refuses tokens c.args.at (label_at text here) c.refuse-then-not-is_case.result c.refuse-then-not-is_case.ensures
    (label_wrong text here (drop (c.args.at + 1) tokens) c.in-Some.token c.in-Some.ensures.found (sym c.if-is_default.ensures)
    (sym c.if-not-is_case.ensures))

pub returns : goal.returns
returns c =
    let tokens = c.args.input.now.tokens.now in
    let text = c.args.input.now.text.now in
    let here = drop c.args.at tokens in
    let rest = drop (c.args.at + 1) tokens in
    as_read tokens c.args.at (c.args.at + 1) (label_at text here) (case_at text rest) c.case.result (omega arith)
    (label_case text here rest c.in-Some.token c.in-Some.ensures.found (sym c.if-is_default.ensures) (sym c.if-not-is_case.ensures)) c.case.ensures
