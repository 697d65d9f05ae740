-- When a tree is accepted, and when it is rejected.
use Rattle.std.proofs.Common.{◌≡◌, ◌≢◌, ◌⊎◌, inl, inr, ℕ, List, [], ◌∷◌, Option, Some, None, refl, ap, sym, ◌∙◌}
use Rattle.std.specs.Prelude.{map}
use Rattle.jsh_sum.specs.declared.sums.Sum.{Sum}
use Rattle.jsh_tree.specs.declared.diagnostic.Diagnostic.{Diagnostic}
use Rattle.jsh_tree.specs.declared.diagnostic.Code.TheVariants as code
use Rattle.jsh_sum.specs.declared.reading.Reading.{Reading}
use Rattle.jsh_verdict.specs.declared.verdict.Verdict.TheVariants.{Accepted, Rejected}
use Rattle.jsh_verdict.specs.Diagnostics.{diagnostic}
use Rattle.jsh_verdict.specs.Verdict.{judged_sum, judged_reading}

-- why what is read is rejected with these diagnostics
abbrev pub IsRejectedReading : Option Reading → List Diagnostic → Type 0
IsRejectedReading found ds = ((found ≡ None) × (ds ≡ diagnostic code.NotYet 0 ∷ []))
    ⊎ ((reading : Reading) × (found ≡ Some reading) × (reading.too_big ≢ []) × (ds ≡ map (diagnostic code.NumberTooBig) reading.too_big))

sum_accepted : (sum other : Sum) (places : List ℕ) → judged_sum other places ≡ Accepted sum → (other ≡ sum) × (places ≡ [])
sum_accepted sum other [] is = (cc, refl)
sum_accepted sum other (place ∷ places) is = absurd cc

pub reading_accepted : (found : Option Reading) (sum : Sum) → judged_reading found ≡ Accepted sum →
    found ≡ Some (record { sum = sum; too_big = [] })
reading_accepted None sum is = absurd cc
reading_accepted (Some reading) sum is =
    let both = sum_accepted sum reading.sum reading.too_big is in
    ap (λ sum. Some (record { sum = sum; too_big = reading.too_big })) both.0 ∙ ap (λ places. Some (record { sum = sum; too_big = places })) both.1

sum_rejected : (ds : List Diagnostic) (sum : Sum) (places : List ℕ) → judged_sum sum places ≡ Rejected ds →
    (places ≢ []) × (ds ≡ map (diagnostic code.NumberTooBig) places)
sum_rejected ds sum [] is = absurd cc
sum_rejected ds sum (place ∷ places) is = (λ none. absurd cc, cc)

pub reading_rejected : (found : Option Reading) (ds : List Diagnostic) → judged_reading found ≡ Rejected ds → IsRejectedReading found ds
reading_rejected None ds is = inl (refl, cc)
reading_rejected (Some reading) ds is = let both = sum_rejected ds reading.sum reading.too_big is in inr (reading, refl, both.0, both.1)

pub rejects_sum : (sum : Sum) (places : List ℕ) → places ≢ [] → judged_sum sum places ≡ Rejected (map (diagnostic code.NumberTooBig) places)
rejects_sum sum [] some = absurd (some refl)
rejects_sum sum (place ∷ places) some = refl
