use Rattle.std.proofs.Common.{◌≡◌, ℕ, Bool, true, false, List, sym, ◌∙◌, ap, arith}
use Rattle.jsh_scope.specs.Scope.{Scope}
use Rattle.jsh_header.specs.declared.written.Written.{Written}
use Rattle.jsh_header.specs.Outlines.{outlines}
use Rattle.jsh_header.specs.SuperRules.{leads_back, place_of}
use Rattle.jsh_header.proofs.Positions.{position_here, position_later, position_none}
use Rattle.jsh_header.proofs.rules.first_back.Goals as goal

abbrev leads : Scope → ℕ → Written → Bool
leads scope place written = leads_back (outlines scope) place (place_of scope written)

pub returns-then-back-clause-first : goal.returns-then-back-clause-first
returns-then-back-clause-first c =
    let scope = c.args.hierarchy.now in
    let x = c.index-supertypes-index.result in
    let passes : leads scope c.args.place x ≡ true = sym (c.in_ok-back.ensures.leads ∙ ap (λ (some : Scope). leads some c.args.place x) c.loop-index.invariant.kept) ∙ c.if-back.true in
    sym (position_here (leads scope c.args.place) c.args.supertypes.now c.loop-index.index x c.loop-index-test.true c.index-supertypes-index.is passes) ∙ c.loop-index.invariant.rest

pub loop-index-preserved : goal.loop-index-preserved
loop-index-preserved c =
    let scope = c.args.hierarchy.now in
    let x = c.index-supertypes-index.result in
    let fails : leads scope c.args.place x ≡ false = sym (c.in_ok-back.ensures.leads ∙ ap (λ (some : Scope). leads some c.args.place x) c.loop-index.invariant.kept) ∙ c.if-back.false in
    record {
      kept = c.leads_back.ensures.kept ∙ c.loop-index.invariant.kept;
      rest = sym (position_later (leads scope c.args.place) c.args.supertypes.now c.loop-index.index x c.loop-index-test.true c.index-supertypes-index.is fails) ∙ c.loop-index.invariant.rest;
    }

pub returns-clause-first : goal.returns-clause-first
returns-clause-first c =
    let scope = c.args.hierarchy.now in
    sym (position_none (leads scope c.args.place) c.args.supertypes.now c.loop-index.index (omega (arith, c.loop-index-test.false))) ∙ c.loop-index.invariant.rest
