use Rattle.std.proofs.Common.{List, drop, sym, ap, ◌∙◌, arith, Some, [], suc, ◌+◌, ◌-◌, ◌≤◌, ◌≡◌, add-one, ℕ, zero}
use Rattle.jsh_tree.specs.declared.declaration.MemberDeclaration.{MemberDeclaration}
use Rattle.jsh_parse.proofs.Onward.{prepend}
use Rattle.jsh_parse.proofs.Passing.{hands_on, refuses, next}
use Rattle.jsh_parse.proofs.Pieced.{left_turn}
use Rattle.jsh_decl.specs.DeclarationReader.{members_read}
use Rattle.jsh_decl.specs.DeclarationReading.{member_at, members_at}
use Rattle.jsh_decl.proofs.DeclarationMembers.{members_by, members_zero, members_end, members_skip, members_fail, members_more}
use Rattle.jsh_decl.proofs.members.members.Goals as goal

-- no turn is left
ended : (most turn : ℕ) → most ≤ turn → most - turn ≡ zero
ended most turn h = omega arith

pub returns-then-ends_members : goal.returns-then-ends_members
returns-then-ends_members c =
    let tokens = c.args.input.now.tokens.now in
    let text = c.args.input.now.text.now in
    let room = c.args.room in
    let here = drop c.args.from tokens in
    let left = c.left-most.result in
    let items = c.loop-turn.members.items in
    let now = drop c.loop-turn.at tokens in
    let k = (left + 1) - (c.loop-turn._turn + 1) in (
      omega (arith, c.loop-turn.invariant.forward),
      members_by text room here ∙ ap (λ n. prepend [] (members_read n text room here)) (ap suc (sym c.left-most.ensures) ∙ sym (add-one left)) ∙
          c.loop-turn.invariant.reads ∙
          ap (λ n. prepend items (members_read n text room now)) (left_turn (left + 1) c.loop-turn._turn (omega arith)) ∙
          members_end text room items k now (sym c.if-ends_members.ensures) ∙ ap (λ items. Some (items, now)) (sym c.from_vec.ensures),
    )

pub returns-in_err-further : goal.returns-in_err-further
returns-in_err-further c =
    let tokens = c.args.input.now.tokens.now in
    let text = c.args.input.now.text.now in
    let room = c.args.room in
    let here = drop c.args.from tokens in
    let left = c.left-most.result in
    let items = c.loop-turn.members.items in
    let now = drop c.loop-turn.at tokens in
    let k = (left + 1) - (c.loop-turn._turn + 1) in
    hands_on tokens c.loop-turn.at c.args.from (members_at text room here) (member_at text room now)
    c.in_err-further.field-0.0 c.from_residual.result c.from_residual.ensures.1 (λ n.
    members_by text room here ∙ ap (λ n. prepend [] (members_read n text room here)) (ap suc (sym c.left-most.ensures) ∙ sym (add-one left)) ∙
    c.loop-turn.invariant.reads ∙
    ap (λ n. prepend items (members_read n text room now)) (left_turn (left + 1) c.loop-turn._turn (omega arith)) ∙
    members_fail text room items k now (sym c.if-ends_members.ensures) (sym c.if-sees_semicolon.ensures.value) n) c.in_err-further.ensures

pub loop-turn-preserved : goal.loop-turn-preserved
loop-turn-preserved c =
    let tokens = c.args.input.now.tokens.now in
    let text = c.args.input.now.text.now in
    let room = c.args.room in
    let left = c.left-most.result in
    let items = c.loop-turn.members.items in
    let now = drop c.loop-turn.at tokens in
    let rest = drop c.in_ok-further.behind tokens in
    let k = (left + 1) - (c.loop-turn._turn + 1) in
    record {
      forward = omega (arith, c.loop-turn.invariant.forward, c.in_ok-further.ensures.0);
      reads = c.loop-turn.invariant.reads ∙
          ap (λ n. prepend items (members_read n text room now)) (left_turn (left + 1) c.loop-turn._turn (omega arith)) ∙
          members_more text room items k now rest c.into_inner.result (sym c.if-ends_members.ensures) (sym c.if-sees_semicolon.ensures.value)
          (c.in_ok-further.ensures.1 ∙ ap (λ m. Some (m, rest)) (sym c.into_inner.ensures)) ∙
          ap (λ items. prepend items (members_read k text room rest)) (sym {A = List MemberDeclaration} c.in_ok-push.ensures.items);
    }

pub loop-turn-preserved-then-sees_semicolon : goal.loop-turn-preserved-then-sees_semicolon
loop-turn-preserved-then-sees_semicolon c =
    let tokens = c.args.input.now.tokens.now in
    let text = c.args.input.now.text.now in
    let room = c.args.room in
    let here = drop c.args.from tokens in
    let left = c.left-most.result in
    let items = c.loop-turn.members.items in
    let now = drop c.loop-turn.at tokens in
    let k = (left + 1) - (c.loop-turn._turn + 1) in
    record {
      forward = omega (arith, c.loop-turn.invariant.forward);
      reads = c.loop-turn.invariant.reads ∙
          ap (λ n. prepend items (members_read n text room now)) (left_turn (left + 1) c.loop-turn._turn (omega arith)) ∙
          members_skip text room items k now (sym c.if-ends_members.ensures) (sym c.if-sees_semicolon.ensures.value) ∙
          ap (λ us. prepend items (members_read k text room us)) (next tokens c.loop-turn.at);
    }

pub returns : goal.returns
returns c =
    let tokens = c.args.input.now.tokens.now in
    let text = c.args.input.now.text.now in
    let room = c.args.room in
    let here = drop c.args.from tokens in
    let left = c.left-most.result in
    let items = c.loop-turn.members.items in
    let now = drop c.loop-turn.at tokens in
    let k = (left + 1) - (c.loop-turn._turn + 1) in
    refuses tokens c.args.from (members_at text room here) c.refuse.result c.refuse.ensures
    (members_by text room here ∙ ap (λ n. prepend [] (members_read n text room here)) (ap suc (sym c.left-most.ensures) ∙ sym (add-one left)) ∙
    c.loop-turn.invariant.reads ∙
    ap (λ n. prepend items (members_read n text room now)) (ended (left + 1) c.loop-turn._turn (omega arith)) ∙ members_zero text room items now)
