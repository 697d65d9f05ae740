use Rattle.std.proofs.Common.{◌+◌, ◌++◌, ◌∷◌, [], Some, drop, sym, ap, ◌∙◌, arith}
use Rattle.jsh_parse.proofs.Onward.{prepend, prepend_none}
use Rattle.jsh_parse.proofs.Passing.{next}
use Rattle.jsh_decl.specs.DeclarationReading.{allowed, modifiers_at}
use Rattle.jsh_decl.proofs.DeclarationTurns.{modifier_more, modifier_ends}
use Rattle.jsh_decl.proofs.modifiers.modifiers.Goals as goal

pub loop-further-preserved : goal.loop-further-preserved
loop-further-preserved c =
    let tokens = c.args.input.now.tokens.now in
    let permitted = allowed c.args.place in
    let items = c.loop-further.modifiers.items in
    let now = drop c.loop-further.at tokens in
    record {
      forward = omega (arith, c.loop-further.invariant.forward);
      reads = c.loop-further.invariant.reads ∙
          modifier_more permitted items now c.in-Some.further (sym c.modifier.ensures.value ∙ c.in-Some.is) ∙
          ap (λ us. prepend (items ++ c.in-Some.further ∷ []) (modifiers_at permitted us)) (next tokens c.loop-further.at) ∙
          ap (λ items. prepend items (modifiers_at permitted (drop (c.loop-further.at + 1) tokens))) (sym c.in_ok-push.ensures.items);
    }

pub returns : goal.returns
returns c =
    let tokens = c.args.input.now.tokens.now in
    let permitted = allowed c.args.place in
    let items = c.loop-further.modifiers.items in
    let now = drop c.loop-further.at tokens in (
      c.loop-further.invariant.forward,
      sym (prepend_none (modifiers_at permitted (drop c.args.from tokens))) ∙ c.loop-further.invariant.reads ∙
          modifier_ends permitted items now (sym c.modifier.ensures.value ∙ c.in_default.is) ∙ ap (λ items. Some (items, now)) (sym c.from_vec.ensures),
    )
