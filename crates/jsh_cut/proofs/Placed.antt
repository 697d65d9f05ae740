-- Where the source of a rest begins and ends.
use Rattle.std.proofs.Common.{◌≡◌, ℕ, ◌+◌, ◌-◌, ◌<◌, ◌≤◌, List, [], ◌∷◌, length, map, get_or, Option, refl, ap, subst, ◌∙◌, arith}
use Rattle.std.specs.Prelude.{Some, None}
use Rattle.std.specs.Option.{option_map}
use Rattle.std.specs.Str.{IsUtf8, IsCharBoundary}
use Rattle.jsh_tree.specs.declared.token.Token.{Token}
use Rattle.jsh_lex.specs.Lexis.{tokens}
use Rattle.jsh_lex.specs.Spelling.{AreTokensBehind}
use Rattle.jsh_lex.proofs.Places.{tokens_stand}
use Rattle.jsh_pieces.specs.Pieces.{moved}
use Rattle.jsh_complete.specs.Completeness.{end_of as last_end}
use Rattle.jsh_cut.specs.Commands.{fault_of, end_of}
use Rattle.jsh_cut.specs.Rests.{placed}
use Rattle.jsh_cut.proofs.Ends.{first_between, last_between}
use Rattle.jsh_cut.proofs.Moved.{moved_end}

-- a place of the whole text that is a place of the rest too
pub record IsPlace (base : ℕ) (rest : List ℕ) (at : ℕ) : Type 0 where
  pub behind : base ≤ at
  pub between : IsCharBoundary rest (at - base)

place : (base : ℕ) (rest : List ℕ) (at own : ℕ) → at ≡ base + own → IsCharBoundary rest own → IsPlace base rest at
place base rest at own e between =
    let back : own ≡ at - base = omega (arith, e) in
    record { behind = omega (arith, e); between = subst (λ (n : ℕ). IsCharBoundary rest n) back between }

first_at : (base : ℕ) (rest : List ℕ) (ts own : List Token) (d : Token) → AreTokensBehind rest 0 own → ts ≡ map (moved base) own → 0 < length ts →
    IsPlace base rest (get_or ts 0 d).span.from
first_at base rest ts [] d stand same some = absurd (omega (arith, ap length same))
first_at base rest ts (t ∷ own) d stand same some =
    place base rest (get_or ts 0 d).span.from t.span.from (ap (λ (us : List Token). (get_or us 0 d).span.from) same) (first_between rest 0 (t ∷ own) d stand (omega arith))

-- The first token of a rest begins in it.
pub first_placed : (base : ℕ) (rest : List ℕ) (ts : List Token) (d : Token) → IsUtf8 rest → ts ≡ placed base rest → 0 < length ts →
    IsPlace base rest (get_or ts 0 d).span.from
first_placed base rest ts d u same some = first_at base rest ts (tokens rest).tokens d (tokens_stand rest u) same some

last_at : (base : ℕ) (ts own : List Token) → ts ≡ map (moved base) own → 0 < length ts → last_end ts ≡ base + last_end own
last_at base ts [] same some = absurd (omega (arith, ap length same))
last_at base ts (t ∷ own) same some = ap last_end same ∙ moved_end base t own

-- Its last one ends so much further than it does there.
pub last_further : (base : ℕ) (rest : List ℕ) (ts : List Token) → ts ≡ placed base rest → 0 < length ts → last_end ts ≡ base + last_end (tokens rest).tokens
last_further base rest ts same some = last_at base ts (tokens rest).tokens same some

-- The last token of a rest ends in it.
pub last_placed : (base : ℕ) (rest : List ℕ) (ts : List Token) → IsUtf8 rest → ts ≡ placed base rest → 0 < length ts → IsPlace base rest (last_end ts)
last_placed base rest ts u same some =
    place base rest (last_end ts) (last_end (tokens rest).tokens) (last_further base rest ts same some) (last_between rest 0 (tokens rest).tokens u (tokens_stand rest u))

none_of : {A B : Type 0} (f : A → B) (o : Option A) → None ≡ option_map f o → o ≡ None
none_of f None e = refl
none_of f (Some x) e = absurd cc

-- Without a fault the source ends with the last token.
pub end_without : (rest : List ℕ) → None ≡ fault_of (tokens rest) → end_of rest ≡ last_end (tokens rest).tokens
end_without rest e = let none = none_of (λ f. f.0) (tokens rest).fault e in rw none
