use Rattle.std.proofs.Common.{Some, None, drop, sym, ap, ◌∙◌, arith}
use Rattle.jsh_parse.proofs.Passing.{next}
use Rattle.jsh_parse.proofs.LeafOnward.{element_inferred}
use Rattle.jsh_parse.proofs.heads.element_type.Goals as goal

pub returns-then-sees_var : goal.returns-then-sees_var
returns-then-sees_var c =
    let tokens = c.args.input.now.tokens.now in
    let text = c.args.input.now.text.now in (
      omega arith,
      element_inferred text (drop c.args.at tokens) (sym c.if-sees_var.ensures.value) ∙
          ap (λ ts. Some (None, ts)) (next tokens c.args.at),
    )
