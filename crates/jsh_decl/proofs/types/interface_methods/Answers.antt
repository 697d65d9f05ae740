use Rattle.std.proofs.Common.{drop, sym, ap, ◌∙◌, arith, Some, [], suc, ◌+◌, ◌-◌, ◌≤◌, ◌≡◌, add-one, ℕ, zero}
use Rattle.jsh_parse.proofs.Onward.{prepend}
use Rattle.jsh_parse.proofs.Passing.{hands_on, refuses}
use Rattle.jsh_parse.proofs.Pieced.{left_turn}
use Rattle.jsh_decl.specs.DeclarationReader.{interface_methods_read}
use Rattle.jsh_decl.specs.DeclarationReading.{interface_method_at, interface_methods_at}
use Rattle.jsh_decl.proofs.DeclarationSnippets.{interface_methods_by, methods_zero, methods_end, methods_fail, methods_more}
use Rattle.jsh_decl.proofs.types.interface_methods.Goals as goal

-- no turn is left
ended : (most turn : ℕ) → most ≤ turn → most - turn ≡ zero
ended most turn h = omega arith

pub returns-then-ends_members : goal.returns-then-ends_members
returns-then-ends_members c =
    let tokens = c.args.input.now.tokens.now in
    let text = c.args.input.now.text.now in
    let room = c.args.room in
    let here = drop c.args.from tokens in
    let left = c.left-most.result in
    let items = c.loop-turn.methods.items in
    let now = drop c.loop-turn.at tokens in
    let k = (left + 1) - (c.loop-turn._turn + 1) in (
      omega (arith, c.loop-turn.invariant.forward),
      interface_methods_by text room here ∙ ap (λ n. prepend [] (interface_methods_read n text room here)) (ap suc (sym c.left-most.ensures) ∙
          sym (add-one left)) ∙
          c.loop-turn.invariant.reads ∙
          ap (λ n. prepend items (interface_methods_read n text room now)) (left_turn (left + 1) c.loop-turn._turn (omega arith)) ∙
          methods_end text room items k now (sym c.if-ends_members.ensures) ∙ ap (λ items. Some (items, now)) (sym c.from_vec.ensures),
    )

pub returns-in_err-further : goal.returns-in_err-further
returns-in_err-further c =
    let tokens = c.args.input.now.tokens.now in
    let text = c.args.input.now.text.now in
    let room = c.args.room in
    let here = drop c.args.from tokens in
    let left = c.left-most.result in
    let items = c.loop-turn.methods.items in
    let now = drop c.loop-turn.at tokens in
    let k = (left + 1) - (c.loop-turn._turn + 1) in
    hands_on tokens c.loop-turn.at c.args.from (interface_methods_at text room here) (interface_method_at text room now)
    c.in_err-further.field-0.0 c.from_residual.result c.from_residual.ensures.1 (λ n.
    interface_methods_by text room here ∙ ap (λ n. prepend [] (interface_methods_read n text room here)) (ap suc (sym c.left-most.ensures) ∙
    sym (add-one left)) ∙
    c.loop-turn.invariant.reads ∙
    ap (λ n. prepend items (interface_methods_read n text room now)) (left_turn (left + 1) c.loop-turn._turn (omega arith)) ∙
    methods_fail text room items k now (sym c.if-ends_members.ensures) n) c.in_err-further.ensures

pub loop-turn-preserved : goal.loop-turn-preserved
loop-turn-preserved c =
    let tokens = c.args.input.now.tokens.now in
    let text = c.args.input.now.text.now in
    let room = c.args.room in
    let here = drop c.args.from tokens in
    let left = c.left-most.result in
    let items = c.loop-turn.methods.items in
    let now = drop c.loop-turn.at tokens in
    let k = (left + 1) - (c.loop-turn._turn + 1) in
    record {
      forward = omega (arith, c.loop-turn.invariant.forward, c.in_ok-further.ensures.0);
      reads = c.loop-turn.invariant.reads ∙
          ap (λ n. prepend items (interface_methods_read n text room now)) (left_turn (left + 1) c.loop-turn._turn (omega arith)) ∙
          methods_more text room items k now (drop c.in_ok-further.behind tokens) c.in_ok-further.further (sym c.if-ends_members.ensures)
          c.in_ok-further.ensures.1 ∙
          ap (λ items. prepend items (interface_methods_read k text room (drop c.in_ok-further.behind tokens))) (sym c.in_ok-push.ensures.items);
    }

pub returns : goal.returns
returns c =
    let tokens = c.args.input.now.tokens.now in
    let text = c.args.input.now.text.now in
    let room = c.args.room in
    let here = drop c.args.from tokens in
    let left = c.left-most.result in
    let items = c.loop-turn.methods.items in
    let now = drop c.loop-turn.at tokens in
    let k = (left + 1) - (c.loop-turn._turn + 1) in
    refuses tokens c.args.from (interface_methods_at text room here) c.refuse.result c.refuse.ensures
    (interface_methods_by text room here ∙ ap (λ n. prepend [] (interface_methods_read n text room here)) (ap suc (sym c.left-most.ensures) ∙
    sym (add-one left)) ∙
    c.loop-turn.invariant.reads ∙
    ap (λ n. prepend items (interface_methods_read n text room now)) (ended (left + 1) c.loop-turn._turn (omega arith)) ∙ methods_zero text room items now)
