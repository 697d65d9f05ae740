use Rattle.std.proofs.Common.{drop, arith}
use Rattle.jsh_parse.specs.StatementReading.{block_at}
use Rattle.jsh_parse.proofs.Passing.{hands_on}
use Rattle.jsh_decl.specs.DeclarationReading.{braced_at}
use Rattle.jsh_decl.proofs.snippet.braced.Goals as goal

pub returns-in_err-block : goal.returns-in_err-block
unfolding braced_at
returns-in_err-block c =
    let tokens = c.args.input.now.tokens.now in
    let text = c.args.input.now.text.now in
    let room = c.args.room in
    let here = drop c.args.at tokens in
    hands_on tokens c.args.at c.args.at (braced_at text room here) (block_at text room here)
    c.in_err-block.field-0.0 c.from_residual.result c.from_residual.ensures.1
    (λ n. simp n) c.in_err-block.ensures

pub returns : goal.returns
unfolding braced_at
returns c =
    let tokens = c.args.input.now.tokens.now in
    let text = c.args.input.now.text.now in
    let room = c.args.room in
    let here = drop c.args.at tokens in (
      omega (arith, c.in_ok-block.ensures.0),
      simp (c.in_ok-block.ensures.1, c.in_ok-new.ensures),
    )
