use Rattle.std.proofs.Common.{drop, sym, ap, ◌∙◌, arith, Some}
use Rattle.jsh_parse.proofs.Passing.{hands_on, refuses}
use Rattle.jsh_decl.specs.DeclarationReading.{method_at, whole_method_at}
use Rattle.jsh_decl.proofs.DeclarationSnippets.{whole_method_fails, whole_method_cut, whole_method_by}
use Rattle.jsh_decl.proofs.snippet.whole_method.Goals as goal

pub returns-in_err-method : goal.returns-in_err-method
returns-in_err-method c =
    let tokens = c.args.input.now.tokens.now in
    let text = c.args.input.now.text.now in
    let room = c.args.room in
    let here = drop c.args.at tokens in
    hands_on tokens c.args.at c.args.at (whole_method_at text room c.args.modifiers here) (method_at text room c.args.modifiers here)
    c.in_err-method.field-0.0 c.from_residual.result c.from_residual.ensures.1
    (λ n. whole_method_fails text room c.args.modifiers here n) c.in_err-method.ensures

pub returns-then-is_none : goal.returns-then-is_none
returns-then-is_none c =
    let tokens = c.args.input.now.tokens.now in
    let text = c.args.input.now.text.now in
    let room = c.args.room in
    let here = drop c.args.at tokens in
    refuses tokens c.args.at (whole_method_at text room c.args.modifiers here) c.refuse.result c.refuse.ensures
    (whole_method_cut text room c.args.modifiers here c.in_ok-method.method (drop c.in_ok-method.end tokens) c.in_ok-method.ensures.1 c.if-is_none.ensures)

pub returns : goal.returns
returns c =
    let tokens = c.args.input.now.tokens.now in
    let text = c.args.input.now.text.now in
    let room = c.args.room in
    let here = drop c.args.at tokens in (
      omega (arith, c.in_ok-method.ensures.0),
      whole_method_by text room c.args.modifiers here c.in_ok-method.method (drop c.in_ok-method.end tokens) c.in_ok-method.ensures.1 c.if-is_none.ensures ∙
          ap (λ t. Some (t, drop c.in_ok-method.end tokens)) (sym c.in_ok-new.ensures),
    )
