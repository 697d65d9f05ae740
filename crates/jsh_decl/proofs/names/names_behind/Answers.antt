use Rattle.std.proofs.Common.{drop, sym, ap, ◌∙◌, arith, Some, ◌+◌}
use Rattle.jsh_parse.proofs.Passing.{as_read, next}
use Rattle.jsh_decl.specs.DeclarationReading.{test_of, names_at, names_behind_at}
use Rattle.jsh_decl.proofs.DeclarationOnward.{names_absent, names_stand}
use Rattle.jsh_decl.proofs.names.names_behind.Goals as goal

pub returns-then-not-sees_word : goal.returns-then-not-sees_word
returns-then-not-sees_word c =
    let tokens = c.args.input.now.tokens.now in
    let text = c.args.input.now.text.now in
    let here = drop c.args.at tokens in
    (omega arith, names_absent (test_of c.args.word) text here (sym c.if-not-sees_word.ensures.value) ∙ ap (λ ns. Some (ns, here)) (sym c.new.ensures))

pub returns : goal.returns
returns c =
    let tokens = c.args.input.now.tokens.now in
    let text = c.args.input.now.text.now in
    let here = drop c.args.at tokens in
    as_read tokens c.args.at (c.args.at + 1) (names_behind_at (test_of c.args.word) text here) (names_at text (drop (c.args.at + 1) tokens)) c.names.result
    (omega arith)
    (names_stand (test_of c.args.word) text here (sym c.if-not-sees_word.ensures.value) ∙ ap (names_at text) (next tokens c.args.at)) c.names.ensures
