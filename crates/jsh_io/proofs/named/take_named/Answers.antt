use Rattle.std.proofs.Common.{◌≡◌, ◌+◌, ◌-◌, arith, true, false, sym, ◌∙◌, ap}
use Rattle.std.specs.Str.{bytes_eq}
use Rattle.jsh_io.specs.Named.{is_named}
use Rattle.jsh_io.proofs.NamedValues.{taken-named, kept-named}
use Rattle.jsh_io.proofs.named.take_named.Goals as goal

pub loop-at-preserved-then-eq : goal.loop-at-preserved-then-eq
loop-at-preserved-then-eq g c =
    let next : c.loop-at.at ≡ c.loop-at.at - 1 + 1 = omega arith in
    let matches : is_named c.args.name.now c.index.result.now ≡ true = sym (ap (bytes_eq c.args.name.now) c.as_str.ensures.value) ∙ sym c.eq.ensures ∙ c.if-eq.true in
    let step = taken-named c.args.name.now _ _ _ _ _ _ next c.loop-at.invariant.within c.loop-at.invariant.rest c.remove.ensures.value c.index.ensures matches in
    record { within = omega arith; first = step.first_is; rest = c.remove.ensures.items ∙ step.items_are }

pub loop-at-preserved : goal.loop-at-preserved
loop-at-preserved g c =
    let next : c.loop-at.at ≡ c.loop-at.at - 1 + 1 = omega arith in
    let differs : is_named c.args.name.now c.index.result.now ≡ false = sym (ap (bytes_eq c.args.name.now) c.as_str.ensures.value) ∙ sym c.eq.ensures ∙ c.if-eq.false in
    let step = kept-named c.args.name.now _ _ _ _ _ _ next c.loop-at.invariant.within c.loop-at.invariant.rest c.loop-at.invariant.first c.index.ensures differs in
    record { within = omega arith; first = step.first_is; rest = step.items_are }
