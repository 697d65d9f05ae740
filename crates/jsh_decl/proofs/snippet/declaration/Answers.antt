use Rattle.std.proofs.Common.{drop, sym, ◌∙◌, arith, ◌+◌}
use Rattle.jsh_parse.proofs.Passing.{hands_on, as_read, next}
use Rattle.jsh_decl.specs.DeclarationReading.{class_at, interface_at, whole_method_at, variable_declaration_at, declaration_at}
use Rattle.jsh_decl.proofs.DeclarationSnippets.{declaration_method, declaration_variable, declaration_class, declaration_interface}
use Rattle.jsh_decl.proofs.snippet.declaration.Goals as goal

pub returns-in_err-class : goal.returns-in_err-class
returns-in_err-class c =
    let tokens = c.args.input.now.tokens.now in
    let text = c.args.input.now.text.now in
    let room = c.args.room in
    let here = drop c.args.at tokens in
    hands_on tokens (c.args.at + 1) c.args.at (declaration_at text room c.args.modifiers here) (class_at text room c.args.modifiers (drop
    (c.args.at + 1) tokens))
    c.in_err-class.field-0.0 c.from_residual.result c.from_residual.ensures.1
    (λ n. declaration_class text room c.args.modifiers here (sym c.if-sees_class.ensures.value) ∙ simp (next tokens c.args.at, n)) c.in_err-class.ensures

pub returns-then-sees_class : goal.returns-then-sees_class
returns-then-sees_class c =
    let tokens = c.args.input.now.tokens.now in
    let text = c.args.input.now.text.now in
    let room = c.args.room in
    let here = drop c.args.at tokens in (
      omega (arith, c.in_ok-class.ensures.0),
      declaration_class text room c.args.modifiers here (sym c.if-sees_class.ensures.value) ∙
          simp (next tokens c.args.at, c.in_ok-class.ensures.1, c.in_ok-new.ensures),
    )

pub returns-in_err-interface : goal.returns-in_err-interface
returns-in_err-interface c =
    let tokens = c.args.input.now.tokens.now in
    let text = c.args.input.now.text.now in
    let room = c.args.room in
    let here = drop c.args.at tokens in
    hands_on tokens (c.args.at + 1) c.args.at (declaration_at text room c.args.modifiers here) (interface_at text room c.args.modifiers (drop
    (c.args.at + 1) tokens))
    c.in_err-interface.field-0.0 c.from_residual-in_err-interface.result c.from_residual-in_err-interface.ensures.1
    (λ n. declaration_interface text room c.args.modifiers here (sym c.if-sees_class.ensures.value) (sym c.if-sees_interface.ensures.value) ∙
    simp (next tokens c.args.at, n)) c.in_err-interface.ensures

pub returns-then-sees_interface : goal.returns-then-sees_interface
returns-then-sees_interface c =
    let tokens = c.args.input.now.tokens.now in
    let text = c.args.input.now.text.now in
    let room = c.args.room in
    let here = drop c.args.at tokens in (
      omega (arith, c.in_ok-interface.ensures.0),
      declaration_interface text room c.args.modifiers here (sym c.if-sees_class.ensures.value) (sym c.if-sees_interface.ensures.value) ∙
          simp (next tokens c.args.at, c.in_ok-interface.ensures.1, c.in_ok-new-2.ensures),
    )

pub returns-then-begins_method : goal.returns-then-begins_method
returns-then-begins_method c =
    let tokens = c.args.input.now.tokens.now in
    let text = c.args.input.now.text.now in
    let room = c.args.room in
    let here = drop c.args.at tokens in
    as_read tokens c.args.at c.args.at (declaration_at text room c.args.modifiers here)
    (whole_method_at text room c.args.modifiers here) c.whole_method.result (omega arith)
    (declaration_method text room c.args.modifiers here (sym c.if-sees_class.ensures.value) (sym c.if-sees_interface.ensures.value)
    (sym c.if-begins_method.ensures)) c.whole_method.ensures

pub returns : goal.returns
returns c =
    let tokens = c.args.input.now.tokens.now in
    let text = c.args.input.now.text.now in
    let room = c.args.room in
    let here = drop c.args.at tokens in
    as_read tokens c.args.at c.args.at (declaration_at text room c.args.modifiers here)
    (variable_declaration_at text room c.args.modifiers here) c.variable_declaration.result (omega arith)
    (declaration_variable text room c.args.modifiers here (sym c.if-sees_class.ensures.value) (sym c.if-sees_interface.ensures.value)
    (sym c.if-begins_method.ensures)) c.variable_declaration.ensures
