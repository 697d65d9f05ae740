-- The end mark: what is read was written, and what is written is read again.
use Rattle.std.proofs.Common.{◌≡◌, ℕ, ◌^◌, ◌<◌, ◌==◌, Bool, true, false, cond, List, [], ◌∷◌, ◌++◌, Option, None, Some, refl, ap, sym, subst, ◌∙◌}
use Rattle.std.specs.Int.{w32, to_be_bytes}
use Rattle.std.proofs.lemmas.Bool.{eq-eqb, eqb-true}
use Rattle.std.proofs.lemmas.Option.{cond_some}
use Rattle.jsh_replay.specs.Reading.{◌>>=◌, number_at, behind_end}
use Rattle.jsh_replay.proofs.FieldLaws.{IsBytes, IsBytes-rest, bind_some, Takes, Takes-one, wide32, number_takes, number_again}

abbrev pub mark : ℕ → List ℕ
mark count = 255 ∷ to_be_bytes w32 count

pub end-takes : (count : ℕ) (bytes more : List ℕ) → IsBytes bytes → behind_end count bytes ≡ Some more → Takes bytes (mark count) more
unfolding behind_end
end-takes count [] more fits e = absurd cc
end-takes count (first ∷ bytes) more fits e = from (first == 255) refl e
  where
    from : (is : Bool) → (first == 255) ≡ is → cond is (number_at w32 bytes >>= λ told. cond (told.0 == count) (Some told.1) None) None ≡ Some more → Takes (first ∷ bytes) (mark count) more
    from true is found =
        let s = bind_some (number_at w32 bytes) (λ told. cond (told.0 == count) (Some told.1) None) more found in
        let g = cond_some (s.0.0 == count) s.0.1 more s.2 in
        let t = number_takes w32 (2 ^ 32) wide32 bytes s.0 (IsBytes-rest first bytes fits) s.1 in
        let here : Takes (255 ∷ bytes) (255 ∷ to_be_bytes w32 s.0.0) s.0.1 = Takes-one 255 bytes (to_be_bytes w32 s.0.0) s.0.1 t.0 in
        let there : Takes (first ∷ bytes) (255 ∷ to_be_bytes w32 s.0.0) s.0.1 = subst (λ (b : ℕ). Takes (b ∷ bytes) (255 ∷ to_be_bytes w32 s.0.0) s.0.1) (sym (eqb-true first 255 is)) here in
        let same : Takes (first ∷ bytes) (255 ∷ to_be_bytes w32 count) s.0.1 = subst (λ (n : ℕ). Takes (first ∷ bytes) (255 ∷ to_be_bytes w32 n) s.0.1) (eqb-true s.0.0 count g.0) there in
        subst (λ (rest : List ℕ). Takes (first ∷ bytes) (mark count) rest) g.1 same
    from false is found = absurd cc

pub end-again : (count : ℕ) (more : List ℕ) → count < 2 ^ 32 → behind_end count (mark count ++ more) ≡ Some more
unfolding behind_end
end-again count more few =
    ap (λ (o : Option (ℕ × List ℕ)). o >>= λ told. cond (told.0 == count) (Some told.1) None) (number_again w32 (2 ^ 32) wide32 count more few)
    ∙ ap (λ b. cond b (Some more) None) (eq-eqb count count refl)
