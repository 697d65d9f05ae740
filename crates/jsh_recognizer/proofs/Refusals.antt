-- Tokens are refused at one place, in one way, and only where they aren't whole.
use Rattle.std.proofs.Common.{◌≡◌, ℕ, zero, suc, ◌+◌, ◌≤◌, ◌<◌, List, [], ◌∷◌, take, drop, length, inl, inr, refl, sym, subst, arith}
use Rattle.std.proofs.lemmas.Bool.{cases_lt}
use Rattle.jsh_tree.specs.declared.token.Token.{Token}
use Rattle.jsh_grammar.specs.Productions.{Part}
use Rattle.jsh_grammar.specs.Fronts.{IsWhole, IsPrefix}
use Rattle.jsh_recognizer.specs.declared.recognizer.Start.{Start}
use Rattle.jsh_recognizer.specs.Machine.{Frames, Runs, at_end, one_more}
use Rattle.jsh_recognizer.specs.Recognizing.{kinds}
use Rattle.jsh_recognizer.specs.Stops.{part_of, IsStuck, IsDeeper}
use Rattle.jsh_recognizer.specs.Refused.{Refused, stuck, too_deep, place, stands_deep}
use Rattle.jsh_recognizer.proofs.Stopped.{runs_prefix, prefix_runs, past_end}

-- ---- fewer tokens

runs_less : {limit : ℕ} {fs last : Frames} (ts : List Token) (fewer more : ℕ) → fewer ≤ more → Runs limit fs (kinds (take more ts)) last →
    (between : Frames) × Runs limit fs (kinds (take fewer ts)) between
runs_less {fs = fs} [] zero more le runs = (fs, at_end)
runs_less [] (suc fewer) zero le runs = absurd (omega arith)
runs_less {last = last} [] (suc fewer) (suc more) le runs = (last, runs)
runs_less {fs = fs} (t ∷ ts) zero more le runs = (fs, at_end)
runs_less (t ∷ ts) (suc fewer) zero le runs = absurd (omega arith)
runs_less (t ∷ ts) (suc fewer) (suc more) le (one_more s at runs) = let h = runs_less ts fewer more (omega arith) runs in (h.0, one_more s at h.1)

-- fewer tokens of a prefix are one
pub fewer_prefix : (s : Start) (room : ℕ) (ts : List Token) (fewer more : ℕ) → fewer ≤ more → IsPrefix (part_of s) room (kinds (take more ts)) →
    IsPrefix (part_of s) room (kinds (take fewer ts))
fewer_prefix s room ts fewer more le is =
    let all = prefix_runs s room (kinds (take more ts)) is in
    let some = runs_less ts fewer more le all.1 in
    runs_prefix s room (kinds (take fewer ts)) some.0 some.1

-- some tokens of a prefix are one
pub some_prefix : (s : Start) (room : ℕ) (ts : List Token) (some : ℕ) → IsPrefix (part_of s) room (kinds ts) → IsPrefix (part_of s) room (kinds (take some ts))
some_prefix s room ts some is =
    let all : take (some + length ts) ts ≡ ts = past_end ts (some + length ts) (omega arith) in
    fewer_prefix s room ts some (some + length ts) (omega arith) (subst (λ us. IsPrefix (part_of s) room (kinds us)) (sym all) is)

-- ---- behind the place

-- a token stands behind fewer than all
next_token : (ts : List Token) (n : ℕ) → n < length ts → (t : Token) × (rest : List Token) × (drop n ts ≡ t ∷ rest)
next_token [] n le = absurd (omega arith)
next_token (t ∷ ts) zero le = (t, ts, refl)
next_token (t ∷ ts) (suc n) le = next_token ts n (omega arith)

-- where they are stuck, one token more is no prefix
stuck_next : {n : Part} (ts : List Token) (read : ℕ) → IsStuck n ts read → read < length ts → (room : ℕ) → IsPrefix n room (kinds (take (suc read) ts)) → ⊥
stuck_next {n = n} ts read stops le =
    let h = next_token ts read le in
    let e : drop read ts ≡ h.0 ∷ h.1 = h.2 in
    rw e at stops

-- nor are more tokens
stuck_behind : (s : Start) (ts : List Token) (read more : ℕ) → IsStuck (part_of s) ts read → read < more → more ≤ length ts → (room : ℕ) →
    IsPrefix (part_of s) room (kinds (take more ts)) → ⊥
stuck_behind s ts read more stops lt le room is = stuck_next ts read stops (omega arith) room (fewer_prefix s room ts (suc read) more (omega arith) is)

-- with the token that stands too deep, and more, they are no prefix in that room
deep_behind : (s : Start) (ts : List Token) (read more : ℕ) → IsDeeper (part_of s) 256 ts read → read < more →
    IsPrefix (part_of s) 256 (kinds (take more ts)) → ⊥
deep_behind s ts read more deeper lt is = deeper.1 (fewer_prefix s 256 ts (suc read) more (omega arith) is)

-- a token stands too deep only where there is one
pub deep_below : (s : Start) (ts : List Token) (read : ℕ) → IsPrefix (part_of s) 256 (kinds (take read ts)) → IsDeeper (part_of s) 256 ts read → read < length ts
deep_below s ts read is deeper = elim (cases_lt read (length ts)) [
  | inl lt ↦ lt
  | inr le ↦
      let here : take read ts ≡ ts = past_end ts read (omega arith) in
      let there : take (suc read) ts ≡ ts = past_end ts (suc read) (omega arith) in
      let same : take read ts ≡ take (suc read) ts = cc in
      absurd (deeper.1 (subst (λ us. IsPrefix (part_of s) 256 (kinds us)) same is))
]

-- ---- one place

stuck_once : (s : Start) (ts : List Token) (a b : ℕ) → a ≤ length ts → b ≤ length ts → IsPrefix (part_of s) 256 (kinds (take a ts)) →
    IsPrefix (part_of s) 256 (kinds (take b ts)) → IsStuck (part_of s) ts a → IsStuck (part_of s) ts b → a ≡ b
stuck_once s ts a b within_a within_b is_a is_b stops_a stops_b = elim (cases_lt a b) [
  | inl lt ↦ absurd (stuck_behind s ts a b stops_a lt within_b 256 is_b)
  | inr le ↦ elim (cases_lt b a) [
    | inl lt ↦ absurd (stuck_behind s ts b a stops_b lt within_a 256 is_a)
    | inr ge ↦ omega arith
  ]
]

pub deep_once : (s : Start) (ts : List Token) (a b : ℕ) → IsPrefix (part_of s) 256 (kinds (take a ts)) → IsPrefix (part_of s) 256 (kinds (take b ts)) →
    IsDeeper (part_of s) 256 ts a → IsDeeper (part_of s) 256 ts b → a ≡ b
deep_once s ts a b is_a is_b deeper_a deeper_b = elim (cases_lt a b) [
  | inl lt ↦ absurd (deep_behind s ts a b deeper_a lt is_b)
  | inr le ↦ elim (cases_lt b a) [
    | inl lt ↦ absurd (deep_behind s ts b a deeper_b lt is_a)
    | inr ge ↦ omega arith
  ]
]

-- they aren't stuck and too deep
stuck_or_deep : (s : Start) (ts : List Token) (a b : ℕ) → IsPrefix (part_of s) 256 (kinds (take a ts)) → IsPrefix (part_of s) 256 (kinds (take b ts)) →
    IsStuck (part_of s) ts a → IsDeeper (part_of s) 256 ts b → ⊥
stuck_or_deep s ts a b is_a is_b stops deeper =
    let below : b < length ts = deep_below s ts b is_b deeper in
    elim (cases_lt b a) [
      | inl lt ↦ deep_behind s ts b a deeper lt is_a
      | inr le ↦ stuck_behind s ts a (suc b) stops (omega arith) (omega arith) deeper.0.0 deeper.0.1
    ]

-- the place at which tokens are refused is the only one, and so is the way
pub refused_once : (s : Start) (ts : List Token) (a b : Refused (part_of s) ts) → (place a ≡ place b) × (stands_deep a ≡ stands_deep b)
refused_once s ts (stuck a within_a is_a stops_a) (stuck b within_b is_b stops_b) = (stuck_once s ts a b within_a within_b is_a is_b stops_a stops_b, refl)
refused_once s ts (stuck a within_a is_a stops) (too_deep b is_b deeper) = absurd (stuck_or_deep s ts a b is_a is_b stops deeper)
refused_once s ts (too_deep a is_a deeper) (stuck b within_b is_b stops) = absurd (stuck_or_deep s ts b a is_b is_a stops deeper)
refused_once s ts (too_deep a is_a deeper_a) (too_deep b is_b deeper_b) = (deep_once s ts a b is_a is_b deeper_a deeper_b, refl)

-- ---- not whole

-- no prefix of a whole stops being one, and none is stuck at the end of it
stuck_not_whole : (s : Start) (ts : List Token) (read : ℕ) (behind : List Token) → drop read ts ≡ behind → IsStuck (part_of s) ts read →
    IsWhole (part_of s) 256 (kinds ts) → ⊥
stuck_not_whole s ts read [] e stops is = let never : (room : ℕ) → IsWhole (part_of s) room (kinds ts) → ⊥ = rw e at stops in never 256 is
stuck_not_whole s ts read (t ∷ rest) e stops is =
    let never : (room : ℕ) → IsPrefix (part_of s) room (kinds (take (suc read) ts)) → ⊥ = rw e at stops in
    never 256 (some_prefix s 256 ts (suc read) (inl is))

-- a whole part isn't refused
pub refused_not_whole : (s : Start) (ts : List Token) → Refused (part_of s) ts → IsWhole (part_of s) 256 (kinds ts) → ⊥
refused_not_whole s ts (stuck read within is_prefix stops) is = stuck_not_whole s ts read (drop read ts) refl stops is
refused_not_whole s ts (too_deep read is_prefix deeper) is = deeper.1 (some_prefix s 256 ts (suc read) (inl is))
