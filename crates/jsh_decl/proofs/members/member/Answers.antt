use Rattle.std.proofs.Common.{drop, arith}
use Rattle.jsh_decl.specs.declared.modifiers.Place.TheVariants as place
use Rattle.jsh_parse.proofs.Passing.{hands_on, as_read}
use Rattle.jsh_decl.specs.DeclarationReading.{allowed, modifiers_at, member_at, member_behind_at}
use Rattle.jsh_decl.proofs.DeclarationTurns.{modifiers_stand}
use Rattle.jsh_decl.proofs.DeclarationMembers.{member_by}
use Rattle.jsh_decl.proofs.members.member.Goals as goal

pub returns-in_err-modifiers : goal.returns-in_err-modifiers
returns-in_err-modifiers c =
    let tokens = c.args.input.now.tokens.now in
    let text = c.args.input.now.text.now in
    let room = c.args.room in
    let here = drop c.args.at tokens in
    hands_on tokens c.args.at c.args.at (member_at text room here) (modifiers_at (allowed place.Member) here)
    c.in_err-modifiers.field-0.0 c.from_residual.result c.from_residual.ensures.1
    (λ n. modifiers_stand (allowed place.Member) (member_at text room here) here n) c.in_err-modifiers.ensures

pub returns : goal.returns
returns c =
    let tokens = c.args.input.now.tokens.now in
    let text = c.args.input.now.text.now in
    let room = c.args.room in
    let here = drop c.args.at tokens in
    as_read tokens c.args.at c.in_ok-modifiers.rest (member_at text room here) (member_behind_at text room c.in_ok-modifiers.modifiers
    (drop c.in_ok-modifiers.rest tokens)) c.member_behind.result (omega (arith, c.in_ok-modifiers.ensures.0))
    (member_by text room here (drop c.in_ok-modifiers.rest tokens) c.in_ok-modifiers.modifiers c.in_ok-modifiers.ensures.1) c.member_behind.ensures
