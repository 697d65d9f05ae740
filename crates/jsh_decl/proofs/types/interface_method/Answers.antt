use Rattle.std.proofs.Common.{drop, sym, arith}
use Rattle.jsh_decl.specs.declared.modifiers.Place.TheVariants as place
use Rattle.jsh_parse.proofs.Passing.{hands_on, refuses}
use Rattle.jsh_decl.specs.DeclarationReading.{allowed, modifiers_at, method_at, interface_method_at}
use Rattle.jsh_decl.proofs.DeclarationTurns.{modifiers_stand}
use Rattle.jsh_decl.proofs.DeclarationSnippets.{interface_method_fails, interface_method_whole, interface_method_by}
use Rattle.jsh_decl.proofs.types.interface_method.Goals as goal

pub returns-in_err-modifiers : goal.returns-in_err-modifiers
returns-in_err-modifiers c =
    let tokens = c.args.input.now.tokens.now in
    let text = c.args.input.now.text.now in
    let room = c.args.room in
    let here = drop c.args.at tokens in
    hands_on tokens c.args.at c.args.at (interface_method_at text room here) (modifiers_at (allowed place.Interface) here)
    c.in_err-modifiers.field-0.0 c.from_residual.result c.from_residual.ensures.1
    (λ n. modifiers_stand (allowed place.Interface) (interface_method_at text room here) here n) c.in_err-modifiers.ensures

pub returns-in_err-method : goal.returns-in_err-method
returns-in_err-method c =
    let tokens = c.args.input.now.tokens.now in
    let text = c.args.input.now.text.now in
    let room = c.args.room in
    let here = drop c.args.at tokens in
    hands_on tokens c.in_ok-modifiers.rest c.args.at (interface_method_at text room here) (method_at text room c.in_ok-modifiers.modifiers
    (drop c.in_ok-modifiers.rest tokens))
    c.in_err-method.field-0.0 c.from_residual-in_err-method.result c.from_residual-in_err-method.ensures.1
    (λ n. interface_method_fails text room here
    (drop c.in_ok-modifiers.rest tokens) c.in_ok-modifiers.modifiers c.in_ok-modifiers.ensures.1 n) c.in_err-method.ensures

pub returns-then-is_some : goal.returns-then-is_some
returns-then-is_some c =
    let tokens = c.args.input.now.tokens.now in
    let text = c.args.input.now.text.now in
    let room = c.args.room in
    let here = drop c.args.at tokens in
    refuses tokens c.args.at (interface_method_at text room here) c.refuse.result c.refuse.ensures
    (interface_method_whole text room here (drop c.in_ok-modifiers.rest tokens) c.in_ok-modifiers.modifiers c.in_ok-method.method
    (drop c.in_ok-method.end tokens) c.in_ok-modifiers.ensures.1 c.in_ok-method.ensures.1 (sym c.if-is_some.ensures))

pub returns : goal.returns
returns c =
    let tokens = c.args.input.now.tokens.now in
    let text = c.args.input.now.text.now in
    let room = c.args.room in
    let here = drop c.args.at tokens in (
      omega (arith, c.in_ok-modifiers.ensures.0, c.in_ok-method.ensures.0),
      interface_method_by text room here (drop c.in_ok-modifiers.rest tokens) c.in_ok-modifiers.modifiers c.in_ok-method.method
          (drop c.in_ok-method.end tokens) c.in_ok-modifiers.ensures.1 c.in_ok-method.ensures.1 (sym c.if-is_some.ensures),
    )
