use Rattle.std.proofs.Common.{drop, sym, ◌∙◌, arith}
use Rattle.jsh_parse.proofs.Passing.{hands_on, refuses, as_read}
use Rattle.jsh_decl.specs.DeclarationReading.{method_at, constructor_at, field_at, member_behind_at}
use Rattle.jsh_decl.proofs.DeclarationMembers.{member_constructor, member_method, member_var, member_field}
use Rattle.jsh_decl.proofs.members.member_behind.Goals as goal

pub returns-then-begins_constructor : goal.returns-then-begins_constructor
returns-then-begins_constructor c =
    let tokens = c.args.input.now.tokens.now in
    let text = c.args.input.now.text.now in
    let room = c.args.room in
    let here = drop c.args.at tokens in
    as_read tokens c.args.at c.args.at (member_behind_at text room c.args.modifiers here)
    (constructor_at text room c.args.modifiers here) c.constructor.result (omega arith)
    (member_constructor text room c.args.modifiers here (sym c.if-begins_constructor.ensures)) c.constructor.ensures

pub returns-in_err-method : goal.returns-in_err-method
returns-in_err-method c =
    let tokens = c.args.input.now.tokens.now in
    let text = c.args.input.now.text.now in
    let room = c.args.room in
    let here = drop c.args.at tokens in
    hands_on tokens c.args.at c.args.at (member_behind_at text room c.args.modifiers here) (method_at text room c.args.modifiers here)
    c.in_err-method.field-0.0 c.from_residual.result c.from_residual.ensures.1
    (λ n. member_method text room c.args.modifiers here (sym c.if-begins_constructor.ensures) (sym c.if-begins_method.ensures) ∙ simp n) c.in_err-method.ensures

pub returns-then-begins_method : goal.returns-then-begins_method
returns-then-begins_method c =
    let tokens = c.args.input.now.tokens.now in
    let text = c.args.input.now.text.now in
    let room = c.args.room in
    let here = drop c.args.at tokens in (
      omega (arith, c.in_ok-method.ensures.0),
      member_method text room c.args.modifiers here (sym c.if-begins_constructor.ensures) (sym c.if-begins_method.ensures) ∙
          simp (c.in_ok-method.ensures.1, c.in_ok-member.ensures),
    )

pub returns-then-sees_var : goal.returns-then-sees_var
returns-then-sees_var c =
    let tokens = c.args.input.now.tokens.now in
    let text = c.args.input.now.text.now in
    let room = c.args.room in
    let here = drop c.args.at tokens in
    refuses tokens c.args.at (member_behind_at text room c.args.modifiers here) c.refuse.result c.refuse.ensures
    (member_var text room c.args.modifiers here (sym c.if-begins_constructor.ensures) (sym c.if-begins_method.ensures) (sym c.if-sees_var.ensures.value))

pub returns : goal.returns
returns c =
    let tokens = c.args.input.now.tokens.now in
    let text = c.args.input.now.text.now in
    let room = c.args.room in
    let here = drop c.args.at tokens in
    as_read tokens c.args.at c.args.at (member_behind_at text room c.args.modifiers here) (field_at text room c.args.modifiers here) c.field.result
    (omega arith)
    (member_field text room c.args.modifiers here (sym c.if-begins_constructor.ensures) (sym c.if-begins_method.ensures)
    (sym c.if-sees_var.ensures.value)) c.field.ensures
