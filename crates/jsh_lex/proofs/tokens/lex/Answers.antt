use Rattle.std.proofs.Common.{rules, arith, sym, ap, subst, ◌∙◌, List, ◌<◌, ◌-◌, Some, length, false-eqb}
use Rattle.std.proofs.lemmas.Bool.{eqb-true}
use Rattle.std.specs.Str.{IsUtf8}
use Rattle.jsh_tree.specs.declared.token.Token.{Token}
use Rattle.jsh_lex.specs.Lexis.{Lexed}
use Rattle.jsh_lex.proofs.Lexemes.{Left, left_at_first, left_behind_gap, left_behind_token, left_at_fault, left_at_end}
use Rattle.jsh_lex.proofs.Places.{tokens_stand, tokens_longest}
use Rattle.jsh_lex.proofs.tokens.lex.Goals as goal

pub loop-rest-init : goal.loop-rest-init
loop-rest-init c = (c.utf8.text, subst (λ (ts : List Token). Left ts c.args.text.now c.args.text.now) (sym c.new-tokens.ensures.items) (left_at_first c.args.text.now))

pub loop-rest-preserved-in-Gap : goal.loop-rest-preserved-in-Gap
loop-rest-preserved-in-Gap c =
    let text = c.args.text.now in
    let rest = c.loop-rest.rest.now in
    let after = c.front-lexeme.result.1.now in
    let utf8 : IsUtf8 after = search rules in
    let some : 0 < length rest = omega (arith, false-eqb (length rest) 0 c.loop-rest-test.ensures) in
    let front = c.front-lexeme.ensures in (
      utf8,
      left_behind_gap c.loop-rest.tokens.items text rest after c.utf8.text c.loop-rest.invariant.0 utf8 some (front.length some)
          (sym c.in-Gap.is ∙ front.lexeme) front.rest c.loop-rest.invariant.1,
    )

pub loop-rest-preserved : goal.loop-rest-preserved
loop-rest-preserved c =
    let text = c.args.text.now in
    let rest = c.loop-rest.rest.now in
    let after = c.front-lexeme.result.1.now in
    let utf8 : IsUtf8 after = search rules in
    let some : 0 < length rest = omega (arith, false-eqb (length rest) 0 c.loop-rest-test.ensures) in
    let front = c.front-lexeme.ensures in (
      utf8,
      subst (λ (ts : List Token). Left ts text after) (sym c.in_ok-push-in-Spelled.ensures.items)
          (left_behind_token c.loop-rest.tokens.items text rest after c.in-Spelled.kind c.utf8.text c.loop-rest.invariant.0 utf8 some (front.length some)
          (sym c.in-Spelled.is ∙ front.lexeme) front.rest c.loop-rest.invariant.1),
    )

pub returns-in-Wrong-clause-fault : goal.returns-in-Wrong-clause-fault
returns-in-Wrong-clause-fault c =
    let text = c.args.text.now in
    let rest = c.loop-rest.rest.now in
    let after = c.front-lexeme.result.1.now in
    let utf8 : IsUtf8 after = search rules in
    let some : 0 < length rest = omega (arith, false-eqb (length rest) 0 c.loop-rest-test.ensures) in
    let front = c.front-lexeme.ensures in
    left_at_fault c.loop-rest.tokens.items text rest after c.in-Wrong.kind c.utf8.text c.loop-rest.invariant.0 utf8 some
    (sym c.in-Wrong.is ∙ front.lexeme) front.rest c.loop-rest.invariant.1
    ∙ ap (λ (ts : List Token). let l : Lexed = record { tokens = ts; fault = Some (c.in-Wrong.kind, length text - length rest) } in l) (sym c.from_vec.ensures)

pub returns-clause-tokens : goal.returns-clause-tokens
returns-clause-tokens c =
    left_at_end c.loop-rest.tokens.items c.args.text.now c.loop-rest.rest.now c.loop-rest.invariant.0
    (eqb-true (length c.loop-rest.rest.now) 0 (sym c.loop-rest-test.ensures)) c.loop-rest.invariant.1

pub returns-in_err-push-in-Spelled-clause-spelled : goal.returns-in_err-push-in-Spelled-clause-spelled
returns-in_err-push-in-Spelled-clause-spelled c = tokens_stand c.args.text.now c.utf8.text

pub returns-in-Wrong-clause-spelled : goal.returns-in-Wrong-clause-spelled
returns-in-Wrong-clause-spelled c = tokens_stand c.args.text.now c.utf8.text

pub returns-clause-spelled : goal.returns-clause-spelled
returns-clause-spelled c = tokens_stand c.args.text.now c.utf8.text

pub returns-in_err-push-in-Spelled-clause-longest : goal.returns-in_err-push-in-Spelled-clause-longest
returns-in_err-push-in-Spelled-clause-longest c = tokens_longest c.args.text.now c.utf8.text

pub returns-in-Wrong-clause-longest : goal.returns-in-Wrong-clause-longest
returns-in-Wrong-clause-longest c = tokens_longest c.args.text.now c.utf8.text

pub returns-clause-longest : goal.returns-clause-longest
returns-clause-longest c = tokens_longest c.args.text.now c.utf8.text
