-- The tokens of a text, from a place on.
use Rattle.std.proofs.Common.{◌≡◌, ℕ, zero, suc, ◌+◌, ◌-◌, ◌<◌, ◌≤◌, List, [], ◌∷◌, ◌++◌, Some, None, length, drop, get_or, refl, ap, ◌∙◌, subst, arith}
use Rattle.std.specs.List.{slice_get}
use Rattle.std.proofs.lemmas.Option.{slice_get_within, get_or_from_slice_get}
use Rattle.std.proofs.lemmas.List.{drop_more}
use Rattle.std.proofs.lemmas.Str.{IsCharBoundary-end}
use Rattle.jsh_tree.specs.declared.token.Token.{Token}
use Rattle.jsh_lex.specs.Spelling.{AreTokensBehind}
use Rattle.jsh_parse.specs.Reading.{IsWithin, AreWithin, AreTaken, semicolon_at_end, spelled, ended, last_end}

pub found_at : {A : Type 0} (xs : List A) (n : ℕ) (x : A) → slice_get xs n ≡ Some x → drop n xs ≡ x ∷ drop (n + 1) xs
found_at xs n x h = drop_more xs n x (slice_get_within xs n x h) ∙ ap (λ y. y ∷ drop (n + 1) xs) (get_or_from_slice_get xs n x x h)

pub none_at : {A : Type 0} (xs : List A) (n : ℕ) → slice_get xs n ≡ None → drop n xs ≡ []
none_at [] zero h = refl
none_at [] (suc n) h = refl
none_at (x ∷ xs) zero h = cc
none_at (x ∷ xs) (suc n) h = none_at xs n h

later : (a b c : ℕ) → a ≤ b → b < c → suc a ≤ c
later a b c h k = omega arith

strictly : {a b : ℕ} → a < b → a ≤ b
strictly h = omega (arith, h)

-- tokens behind a place of a text are within it
pub within_behind : (text : List ℕ) (end : ℕ) (ts : List Token) → AreTokensBehind text end ts → AreWithin text ts
within_behind text end [] b k t h = cc
within_behind text end (u ∷ us) b zero t h = subst (IsWithin text) (simp-some u t h) (record { ordered = strictly b.0.nonempty; within = b.0.within; starts_between = b.0.starts_between; ends_between = b.0.ends_between })
  where
    simp-some : (u t : Token) → Some u ≡ Some t → u ≡ t
    simp-some u t h = cc
within_behind text end (u ∷ us) b (suc k) t h = within_behind text u.span.to us b.1 k t h

-- each token has a byte
pub few_behind : (text : List ℕ) (end : ℕ) (ts : List Token) → AreTokensBehind text end ts → end + length ts ≤ last_end end ts
few_behind text end [] b = omega arith
few_behind text end (t ∷ ts) b =
    let rest = few_behind text t.span.to ts b.1 in
    let first = b.0.behind in
    let byte = b.0.nonempty in
    omega arith

at_only : {A : Type 0} (t d : A) → get_or (t ∷ []) (length (t ∷ []) - 1) d ≡ t
at_only t d = refl

at_later : {A : Type 0} (t u : A) (ts : List A) (d : A) → get_or (t ∷ u ∷ ts) (length (t ∷ u ∷ ts) - 1) d ≡ get_or (u ∷ ts) (length (u ∷ ts) - 1) d
at_later t u ts d =
    let one : suc (suc (length ts)) - 1 ≡ suc (suc (length ts) - 1) = omega arith in
    ap (λ k. get_or (t ∷ u ∷ ts) k d) one

-- the last token is the one that ends last
pub ends_last : (end : ℕ) (ts : List Token) (d : Token) → 0 < length ts → (get_or ts (length ts - 1) d).span.to ≡ last_end end ts
ends_last end [] d h = absurd (omega arith)
ends_last end (t ∷ []) d h = ap (λ (u : Token). u.span.to) (at_only t d)
ends_last end (t ∷ u ∷ ts) d h = ap (λ (v : Token). v.span.to) (at_later t u ts d) ∙ ends_last t.span.to (u ∷ ts) d (omega arith)

-- the last token ends in the text
last_within : (text : List ℕ) (end : ℕ) (ts : List Token) → end ≤ length text → AreTokensBehind text end ts → last_end end ts ≤ length text
last_within text end [] h b = h
last_within text end (t ∷ ts) h b = last_within text t.span.to ts b.0.within b.1

-- behind tokens that are within a text, so is the semicolon of its end
within_ended : (text : List ℕ) (ts : List Token) → AreWithin text ts → AreWithin text (ts ++ semicolon_at_end text ∷ [])
within_ended text [] w zero t h =
    subst (IsWithin text) (same-some (semicolon_at_end text) t h)
    (record { ordered = omega arith; within = omega arith; starts_between = IsCharBoundary-end text; ends_between = IsCharBoundary-end text })
  where
    same-some : (u t : Token) → Some u ≡ Some t → u ≡ t
    same-some u t h = cc
within_ended text [] w (suc k) t h = absurd (nothing k h)
  where
    nothing : (k : ℕ) → slice_get {X = Token} [] k ≡ Some t → ⊥
    nothing zero h = cc
    nothing (suc k) h = cc
within_ended text (u ∷ us) w zero t h = w zero t h
within_ended text (u ∷ us) w (suc k) t h = within_ended text us (λ i v e. w (suc i) v e) k t h

-- what a parser takes is within the text
pub within_taken : (text : List ℕ) (ts : List Token) → AreTaken text ts → AreWithin text ts
within_taken text ts (spelled us b) = within_behind text 0 us b
within_taken text ts (ended us b) = within_ended text us (within_behind text 0 us b)

last_of_ended : (end : ℕ) (ts : List Token) (t : Token) → last_end end (ts ++ t ∷ []) ≡ t.span.to
last_of_ended end [] t = refl
last_of_ended end (u ∷ us) t = last_of_ended u.span.to us t

length_ended : (ts : List Token) (t : Token) → length (ts ++ t ∷ []) ≡ suc (length ts)
length_ended [] t = refl
length_ended (u ∷ us) t = ap suc (length_ended us t)

-- each token but the last has a byte
pub few_taken : (text : List ℕ) (ts : List Token) → AreTaken text ts → length ts ≤ last_end 0 ts + 1
few_taken text ts (spelled us b) = let few = few_behind text 0 us b in omega arith
few_taken text ts (ended us b) =
    let few = few_behind text 0 us b in
    let inside = last_within text 0 us (omega arith) b in
    let ends = last_of_ended 0 us (semicolon_at_end text) in
    let counts = length_ended us (semicolon_at_end text) in
    omega arith
