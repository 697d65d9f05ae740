-- Tokens are refused in one way, whichever is found.
use Rattle.std.proofs.Common.{◌≡◌, ℕ, ◌≤◌, ◌<◌, inl, inr, List, [], take, drop, length, refl, ap, sym, subst, ◌∙◌, arith}
use Rattle.std.proofs.Math.Seq.{drop-length, take-length}
use Rattle.std.proofs.lemmas.Bool.{cases_lt}
use Rattle.std.proofs.lemmas.List.{drop_all}
use Rattle.jsh_tree.specs.declared.token.Token.{Token}
use Rattle.jsh_tree.specs.declared.diagnostic.Diagnostic.{Diagnostic}
use Rattle.jsh_tree.specs.declared.diagnostic.Code.TheVariants as code
use Rattle.jsh_grammar.specs.Productions.{snippet}
use Rattle.jsh_grammar.specs.Fronts.{IsWhole, IsPrefix}
use Rattle.jsh_recognizer.specs.declared.recognizer.Start.TheVariants as start
use Rattle.jsh_recognizer.specs.Recognizing.{first, kinds}
use Rattle.jsh_recognizer.specs.Stops.{IsStuck, IsDeeper}
use Rattle.jsh_recognizer.specs.Refused.{Refused, stuck, too_deep}
use Rattle.jsh_recognizer.specs.Reach.{Reason, whole, unfinished, refused, reach}
use Rattle.jsh_recognizer.specs.Reach as machine
use Rattle.jsh_recognizer.specs.Reached.{IsReach}
use Rattle.jsh_recognizer.proofs.Reaches.{reach_of}
use Rattle.jsh_recognizer.proofs.Refusals.{refused_once, refused_not_whole}
use Rattle.jsh_recognizer.proofs.Stopped.{past_end}
use Rattle.jsh_parse.specs.Refusals.{place_of}
use Rattle.jsh_verdict.specs.Diagnostics.{diagnostic}
use Rattle.jsh_verdict.specs.Verdict.{refusal_at, refusal}

-- what is said of tokens that are refused so
refused_as : (text : List ℕ) (ts : List Token) → Refused snippet ts → Diagnostic
refused_as text ts (stuck read within before stops) = diagnostic code.Unexpected (place_of text (drop read ts))
refused_as text ts (too_deep read before deeper) = diagnostic code.TooDeep 0

same_refusal : (text : List ℕ) (ts : List Token) (a b : Refused snippet ts) → refused_as text ts a ≡ refused_as text ts b
unfolding refused_as
same_refusal text ts (stuck a within_a is_a stops_a) (stuck b within_b is_b stops_b) =
    ap (λ read. diagnostic code.Unexpected (place_of text (drop read ts)))
    (refused_once start.Snippet ts (stuck a within_a is_a stops_a) (stuck b within_b is_b stops_b)).0
same_refusal text ts (stuck a within is_a stops) (too_deep b is_b deeper) =
    let once = (refused_once start.Snippet ts (stuck a within is_a stops) (too_deep b is_b deeper)).1 in absurd cc
same_refusal text ts (too_deep a is_a deeper) (stuck b within is_b stops) =
    let once = (refused_once start.Snippet ts (too_deep a is_a deeper) (stuck b within is_b stops)).1 in absurd cc
same_refusal text ts (too_deep a is_a deeper_a) (too_deep b is_b deeper_b) = refl

refused_by : (text : List ℕ) (ts : List Token) (r : Refused snippet ts) (read : ℕ) (reason : Reason) →
    IsReach snippet 256 ts (record { read = read; reason = reason }) → refusal_at text ts (record { read = read; reason = reason }) ≡ refused_as text ts r
unfolding refused_as
refused_by text ts r read whole is = absurd (refused_not_whole start.Snippet ts r is.1.1)
refused_by text ts r read unfinished is = same_refusal text ts (stuck read (omega (arith, is.1.0)) is.0 is.1.1) r
refused_by text ts r read refused is = same_refusal text ts (stuck read (omega (arith, is.1.0)) is.0 is.1.1) r
refused_by text ts r read machine.too_deep is = same_refusal text ts (too_deep read is.0 is.1.1) r

refused_so : (text : List ℕ) (ts : List Token) (r : Refused snippet ts) → refusal text ts ≡ refused_as text ts r
unfolding refusal
refused_so text ts r =
    let found = reach 256 (first start.Snippet) (kinds ts) in
    refused_by text ts r found.read found.reason (reach_of start.Snippet ts)

-- behind their end they are stuck as at their end
stuck_at_end : (ts : List Token) (read : ℕ) → drop read ts ≡ [] → IsStuck snippet ts read → IsStuck snippet ts (length ts)
stuck_at_end ts read none stops = let never : (room : ℕ) → IsWhole snippet room (kinds ts) → ⊥ = rw none at stops in rw (drop-length ts) never

pub refused_stuck : (text : List ℕ) (ts : List Token) (read : ℕ) → IsPrefix snippet 256 (kinds (take read ts)) → IsStuck snippet ts read →
    refusal text ts ≡ diagnostic code.Unexpected (place_of text (drop read ts))
unfolding refused_as
refused_stuck text ts read is stops = elim (cases_lt (length ts) read) [
  | inr within ↦ refused_so text ts (stuck read within is stops)
  | inl behind ↦
      let all : take read ts ≡ ts = past_end ts read (omega arith) in
      let none : drop read ts ≡ [] = drop_all read ts (omega arith) in
      let here : take read ts ≡ take (length ts) ts = all ∙ sym (take-length ts) in
      refused_so text ts
      (stuck (length ts) (omega arith) (subst (λ us. IsPrefix snippet 256 (kinds us)) here is) (stuck_at_end ts read none stops))
      ∙ ap (λ rest. diagnostic code.Unexpected (place_of text rest)) (drop-length ts ∙ sym none)
]

pub refused_deep : (text : List ℕ) (ts : List Token) (read : ℕ) → IsPrefix snippet 256 (kinds (take read ts)) → IsDeeper snippet 256 ts read →
    refusal text ts ≡ diagnostic code.TooDeep 0
unfolding refused_as
refused_deep text ts read is deeper = refused_so text ts (too_deep read is deeper)
