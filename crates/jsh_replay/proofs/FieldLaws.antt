-- Numbers and texts: what is read was written, and what is written is read again.
use Rattle.std.proofs.Common.{◌≡◌, ℕ, zero, suc, ◌+◌, ◌^◌, ◌<◌, ◌≤◌, Bool, true, false, cond, ltb, ◌⊎◌, List, [], ◌∷◌, ◌++◌, length, get_or, take, drop, Option, Some, None, refl, sym, ap, subst, ◌∙◌, append_assoc, arith, inl, inr}
use Rattle.std.specs.Prelude.{◌||◌}
use Rattle.std.specs.Int.{Width, w16, w32, w64, byte_len, from_be_bytes, to_be_bytes}
use Rattle.std.specs.List.{AllByRecursion}
use Rattle.std.specs.Str.{is_utf8, IsUtf8}
use Rattle.std.proofs.lemmas.Bool.{cases_lt, false_from_ne_true, ltb-false, le-ltb}
use Rattle.std.proofs.lemmas.List.{take_at, drop_at, take-append-drop, length-append, length-take, get_or-drop, get_or-take, get_or_past}
use Rattle.std.proofs.lemmas.Nat.{be_bytes_2, be_bytes_4, be_bytes_8, from_be_bytes-to_be_bytes_2, from_be_bytes-to_be_bytes_4, from_be_bytes-to_be_bytes_8}
use Rattle.std.proofs.lemmas.Str.{IsUtf8-from_is_utf8, is_utf8-from_IsUtf8}
use Rattle.jsh_replay.specs.Journal.{text_bytes, IsText}
use Rattle.jsh_replay.specs.Reading.{◌>>=◌, number_at, text_of, text_at}

abbrev pub IsBytes : List ℕ → Type 0
IsBytes bytes = (i : ℕ) → get_or bytes i 0 < 256

pub IsBytes-all : (bytes : List ℕ) → AllByRecursion (λ byte. byte < 256) bytes → IsBytes bytes
IsBytes-all [] h i = let none : get_or {A = ℕ} [] i 0 ≡ 0 = get_or_past {X = ℕ} [] i 0 (omega arith) in omega (arith, none)
IsBytes-all (b ∷ bytes) h zero = h.0
IsBytes-all (b ∷ bytes) h (suc i) = IsBytes-all bytes h.1 i

pub IsBytes-drop : (n : ℕ) (bytes : List ℕ) → IsBytes bytes → IsBytes (drop n bytes)
IsBytes-drop n bytes h i = rw get_or-drop (h (n + i))

IsBytes-take : (n : ℕ) (bytes : List ℕ) → IsBytes bytes → IsBytes (take n bytes)
IsBytes-take n bytes h i =
    elim (cases_lt i n) [
      | inl lt ↦ rw (get_or-take n bytes i 0 lt) (h i)
      | inr le ↦ rw (get_or_past (take n bytes) i 0 (omega (arith, length-take n bytes))) (omega arith)
    ]

pub IsBytes-rest : (b : ℕ) (bytes : List ℕ) → IsBytes (b ∷ bytes) → IsBytes bytes
IsBytes-rest b bytes h i = h (suc i)

-- the value of a step that did not fail
pub bind_some : {A B : Type 0} (o : Option A) (f : A → Option B) (y : B) → (o >>= f) ≡ Some y → (x : A) × (o ≡ Some x) × (f x ≡ Some y)
bind_some (Some x) f y e = (x, refl, e)
bind_some None f y e = absurd cc

-- a test that did not fail
pub guard_some : {A : Type 0} (b : Bool) (x y : A) → cond b None (Some x) ≡ Some y → (b ≡ false) × (x ≡ y)
guard_some true x y e = absurd cc
guard_some false x y e = (refl, cc)

-- which way a test went
pub chosen : {A : Type 0} (b : Bool) (x y z : A) → cond b x y ≡ z → ((b ≡ true) × (x ≡ z)) ⊎ ((b ≡ false) × (y ≡ z))
chosen true x y z e = inl (refl, e)
chosen false x y z e = inr (refl, e)

-- what a reader took from the front
pub record Takes (bytes text rest : List ℕ) : Type 0 where
  pub parts : bytes ≡ text ++ rest
  pub rest_fits : IsBytes rest

pub Takes-then : (a x b y c : List ℕ) → Takes a x b → Takes b y c → Takes a (x ++ y) c
Takes-then a x b y c p q = record { parts = p.parts ∙ ap (λ (t : List ℕ). x ++ t) q.parts ∙ sym (append_assoc x y c); rest_fits = q.rest_fits }

pub Takes-one : (b : ℕ) (bytes text rest : List ℕ) → Takes bytes text rest → Takes (b ∷ bytes) (b ∷ text) rest
Takes-one b bytes text rest h = record { parts = ap (λ (t : List ℕ). b ∷ t) h.parts; rest_fits = h.rest_fits }

-- ---- numbers

pub record IsWide (w : Width) (limit : ℕ) : Type 0 where
  pub len : (n : ℕ) → length (to_be_bytes w n) ≡ byte_len w
  pub back : (bytes : List ℕ) → length bytes ≡ byte_len w → IsBytes bytes → to_be_bytes w (from_be_bytes w bytes) ≡ bytes
  pub again : (n : ℕ) → n < limit → from_be_bytes w (to_be_bytes w n) ≡ n
  pub below : (bytes : List ℕ) → IsBytes bytes → from_be_bytes w bytes < limit

pub wide16 : IsWide w16 (2 ^ 16)
wide16 = record {
  len = λ n. refl;
  back = λ bytes len fits. be_bytes_2 bytes _ len fits refl;
  again = λ n lt. from_be_bytes-to_be_bytes_2 n lt;
  below = λ bytes fits. omega (arith, fits 0, fits 1);
}

pub wide32 : IsWide w32 (2 ^ 32)
wide32 = record {
  len = λ n. refl;
  back = λ bytes len fits. be_bytes_4 bytes _ len fits refl;
  again = λ n lt. from_be_bytes-to_be_bytes_4 n lt;
  below = λ bytes fits. omega (arith, fits 0, fits 1, fits 2, fits 3);
}

pub wide64 : IsWide w64 (2 ^ 64)
wide64 = record {
  len = λ n. refl;
  back = λ bytes len fits. be_bytes_8 bytes _ len fits refl;
  again = λ n lt. from_be_bytes-to_be_bytes_8 n lt;
  below = λ bytes fits. omega (arith, fits 0, fits 1, fits 2, fits 3, fits 4, fits 5, fits 6, fits 7);
}

pub number_takes : (w : Width) (limit : ℕ) (wide : IsWide w limit) (bytes : List ℕ) (x : ℕ × List ℕ) → IsBytes bytes → number_at w bytes ≡ Some x → Takes bytes (to_be_bytes w x.0) x.1 × (x.0 < limit)
number_takes w limit wide bytes x fits e =
    let g = guard_some (ltb (length bytes) (byte_len w)) (from_be_bytes w (take (byte_len w) bytes), drop (byte_len w) bytes) x e in
    let long : byte_len w ≤ length bytes = ltb-false _ _ g.0 in
    let front : to_be_bytes w (from_be_bytes w (take (byte_len w) bytes)) ≡ take (byte_len w) bytes = wide.back (take (byte_len w) bytes) (omega (arith, length-take (byte_len w) bytes)) (IsBytes-take (byte_len w) bytes fits) in
    let made : Takes bytes (to_be_bytes w (from_be_bytes w (take (byte_len w) bytes))) (drop (byte_len w) bytes) =
    record { parts = rw front (sym (take-append-drop (byte_len w) bytes)); rest_fits = IsBytes-drop (byte_len w) bytes fits } in
    subst (λ (y : ℕ × List ℕ). Takes bytes (to_be_bytes w y.0) y.1 × (y.0 < limit)) g.1 (made, wide.below (take (byte_len w) bytes) (IsBytes-take (byte_len w) bytes fits))

pub number_again : (w : Width) (limit : ℕ) (wide : IsWide w limit) (n : ℕ) (rest : List ℕ) → n < limit → number_at w (to_be_bytes w n ++ rest) ≡ Some (n, rest)
number_again w limit wide n rest lt =
    let len = wide.len n in
    let long : ltb (length (to_be_bytes w n ++ rest)) (byte_len w) ≡ false = le-ltb _ _ (omega (arith, length-append (to_be_bytes w n) rest)) in
    rw (long, take_at (to_be_bytes w n) rest (byte_len w) len, drop_at (to_be_bytes w n) rest (byte_len w) len, wide.again n lt) refl

-- ---- texts

-- a text of so many bytes stands in front
pub record IsTextOf (len : ℕ) (bytes : List ℕ) (x : List ℕ × List ℕ) : Type 0 where
  pub text : x.0 ≡ take len bytes
  pub rest : x.1 ≡ drop len bytes
  pub within : len ≤ length bytes
  pub few : len ≤ 65536
  pub utf8 : is_utf8 (take len bytes) ≡ true

text_of-some : (len : ℕ) (bytes : List ℕ) (x : List ℕ × List ℕ) → text_of len bytes ≡ Some x → IsTextOf len bytes x
text_of-some len bytes x e = from (ltb 65536 len) (ltb (length bytes) len) (is_utf8 (take len bytes)) refl refl refl e
  where
    from : (long past good : Bool) → ltb 65536 len ≡ long → ltb (length bytes) len ≡ past → is_utf8 (take len bytes) ≡ good →
        cond (long || past) None (cond good (Some (take len bytes, drop len bytes)) None) ≡ Some x → IsTextOf len bytes x
    from true past good a b c e = absurd cc
    from false true good a b c e = absurd cc
    from false false false a b c e = absurd cc
    from false false true a b c e =
        let same : (take len bytes, drop len bytes) ≡ x = cc in
        record {
          text = ap (λ (y : List ℕ × List ℕ). y.0) (sym same);
          rest = ap (λ (y : List ℕ × List ℕ). y.1) (sym same);
          within = ltb-false _ _ b;
          few = ltb-false _ _ a;
          utf8 = c;
        }

pub text_takes : (bytes : List ℕ) (x : List ℕ × List ℕ) → IsBytes bytes → text_at bytes ≡ Some x → Takes bytes (text_bytes x.0) x.1 × IsText x.0
unfolding text_at text_bytes
text_takes bytes x fits e =
    let b = bind_some (number_at w32 bytes) (λ len. text_of len.0 len.1) x e in
    let n = b.0 in
    let t = number_takes w32 (2 ^ 32) wide32 bytes n fits b.1 in
    let is : IsTextOf n.0 n.1 x = text_of-some n.0 n.1 x b.2 in
    let len : length (take n.0 n.1) ≡ n.0 = omega (arith, length-take n.0 n.1, is.within) in
    let second : Takes n.1 (take n.0 n.1) (drop n.0 n.1) = record { parts = sym (take-append-drop n.0 n.1); rest_fits = IsBytes-drop n.0 n.1 t.0.rest_fits } in
    let both : Takes bytes (to_be_bytes w32 n.0 ++ take n.0 n.1) (drop n.0 n.1) = Takes-then bytes (to_be_bytes w32 n.0) n.1 (take n.0 n.1) (drop n.0 n.1) t.0 second in
    let whole : Takes bytes (to_be_bytes w32 (length (take n.0 n.1)) ++ take n.0 n.1) (drop n.0 n.1) = subst (λ (k : ℕ). Takes bytes (to_be_bytes w32 k ++ take n.0 n.1) (drop n.0 n.1)) (sym len) both in
    let first : Takes bytes (to_be_bytes w32 (length x.0) ++ x.0) (drop n.0 n.1) = subst (λ (p : List ℕ). Takes bytes (to_be_bytes w32 (length p) ++ p) (drop n.0 n.1)) (sym is.text) whole in (
      subst (λ (q : List ℕ). Takes bytes (to_be_bytes w32 (length x.0) ++ x.0) q) (sym is.rest) first,
      (subst IsUtf8 (sym is.text) (IsUtf8-from_is_utf8 (take n.0 n.1) is.utf8), omega (arith, ap length is.text, len, is.few)),
    )

-- a text that is there is read
pub text_of-given : (len : ℕ) (bytes text rest : List ℕ) → len ≤ 65536 → len ≤ length bytes → text ≡ take len bytes → rest ≡ drop len bytes → IsUtf8 (take len bytes) → text_of len bytes ≡ Some (text, rest)
text_of-given len bytes text rest few within is behind utf8 =
    let a : ltb 65536 len ≡ false = le-ltb _ _ few in
    let b : ltb (length bytes) len ≡ false = le-ltb _ _ within in
    let c : is_utf8 (take len bytes) ≡ true = is_utf8-from_IsUtf8 (take len bytes) utf8 in
    rw (a, b, c, is, behind) refl

-- bytes that are no UTF-8 aren't read
pub text_of-refused : (len : ℕ) (bytes : List ℕ) → len ≤ 65536 → len ≤ length bytes → ¬ IsUtf8 (take len bytes) → text_of len bytes ≡ None
text_of-refused len bytes few within bad =
    let a : ltb 65536 len ≡ false = le-ltb _ _ few in
    let b : ltb (length bytes) len ≡ false = le-ltb _ _ within in
    let c : is_utf8 (take len bytes) ≡ false = false_from_ne_true (is_utf8 (take len bytes)) (λ e. bad (IsUtf8-from_is_utf8 (take len bytes) e)) in
    rw (a, b, c) refl

text_of-again : (text rest : List ℕ) → IsText text → text_of (length text) (text ++ rest) ≡ Some (text, rest)
text_of-again text rest fits =
    text_of-given (length text) (text ++ rest) text rest fits.1 (omega (arith, length-append text rest)) (sym (take_at text rest (length text) refl)) (sym (drop_at text rest (length text) refl))
    (subst IsUtf8 (sym (take_at text rest (length text) refl)) fits.0)

pub text_again : (text rest : List ℕ) → IsText text → text_at (text_bytes text ++ rest) ≡ Some (text, rest)
unfolding text_at text_bytes
text_again text rest fits =
    let few : length text < 4294967296 = omega (arith, fits.1) in
    ap (λ (o : Option (ℕ × List ℕ)). o >>= λ len. text_of len.0 len.1)
    (ap (number_at w32) (append_assoc (to_be_bytes w32 (length text)) text rest) ∙ number_again w32 (2 ^ 32) wide32 (length text) (text ++ rest) few)
    ∙ text_of-again text rest fits
