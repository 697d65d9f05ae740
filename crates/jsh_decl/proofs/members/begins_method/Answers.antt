use Rattle.std.proofs.Common.{drop, sym, ap, ◌∙◌, ◌+◌}
use Rattle.jsh_decl.specs.DeclarationReader.{begins_constructor}
use Rattle.jsh_decl.proofs.DeclarationMembers.{method_by_type}
use Rattle.jsh_decl.proofs.members.begins_method.Goals as goal

pub returns : goal.returns
returns c =
    let tokens = c.args.input.now.tokens.now in
    let text = c.args.input.now.text.now in
    let here = drop c.args.at tokens in
    c.names_method.ensures ∙ ap begins_constructor c.brackets-behind.ensures.rest ∙
    sym (method_by_type here c.in-Some.token (drop (c.args.at + 1) tokens) c.in-Some.ensures.found (sym c.if-sees_void.ensures.value)
    (sym c.if-not-names_type.ensures))
