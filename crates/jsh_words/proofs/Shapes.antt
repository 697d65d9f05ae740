-- What `clap` makes of a word, by what the word is.
use Rattle.std.proofs.Common.{◌≡◌, ℕ, ◌<◌, Bool, true, false, ◌&&◌, List, [], ◌∷◌, length, Some, None, refl, sym, ap, ◌∙◌, arith}
use Rattle.std.specs.Prelude.{◌==◌, if◌then◌else◌, option_and_then, slice_get}
use Rattle.std.specs.Str.{bytes_eq, chars, IsUtf8}
use Rattle.std.proofs.lemmas.Bool.{eqb-true}
use Rattle.std.proofs.lemmas.Str.{IsUtf8-drop, IsCharBoundary-after_ascii, encodes-chars}
use lib.Utf8.{encodes}
use Rattle.clap.specs.Lexer.{strip_byte, long_of, long_of_rest, short_of, short_of_rest}
use Rattle.jsh_words.specs.Parts.{Word, rest, option, unknown, plain, word_of, behind_dashes}

abbrev pub dashes : List ℕ
dashes = 45 ∷ 45 ∷ []

-- the word with a hyphen and this behind it
pub record Hyphened (word : List ℕ) : Type 0 where
  pub flags : List ℕ
  pub is_short : short_of word ≡ Some flags
  pub is : word ≡ 45 ∷ flags
  pub some : 0 < length flags

abbrev pub Shows : List ℕ → Word → Type 0
Shows word rest = bytes_eq word dashes ≡ true
Shows word (option name value) = (bytes_eq word dashes ≡ false) × (long_of word ≡ Some (name, value))
Shows word unknown = (bytes_eq word dashes ≡ false) × (long_of word ≡ None) × Hyphened word
Shows word plain = (bytes_eq word dashes ≡ false) × (long_of word ≡ None) × (short_of word ≡ None)

one : (t : Bool) → ((t && false) ≡ false) × (option_and_then long_of_rest (option_and_then (strip_byte 45) (if t then Some [] else None)) ≡ None) × (option_and_then short_of_rest (if t then Some [] else None) ≡ None)
one true = (refl, refl, refl)
one false = (refl, refl, refl)

abbrev by_first : Bool → ℕ → List ℕ → Word
by_first t b bs = if t then (if b == 45 then behind_dashes bs else unknown) else plain

pub shown : (word : List ℕ) → Shows word (word_of word)
shown [] = (refl, refl, refl)
shown (a ∷ []) = one (a == 45)
shown (a ∷ b ∷ bs) = first (a == 45) refl
  where
    third : (cs : List ℕ) → (a == 45) ≡ true → (b == 45) ≡ true → Shows (a ∷ b ∷ cs) (behind_dashes cs)
    third [] e f = ap (λ t. t && ((b == 45) && true)) e ∙ ap (λ t. t && true) f
    third (c ∷ cs) e f = (
      ap (λ t. t && ((b == 45) && false)) e ∙ ap (λ t. t && false) f,
      ap (λ t. option_and_then long_of_rest (option_and_then (strip_byte 45) (if t then Some (b ∷ c ∷ cs) else None))) e ∙ ap (λ t. option_and_then long_of_rest (if t then Some (c ∷ cs) else None)) f,
    )

    second : (u : Bool) → (b == 45) ≡ u → (a == 45) ≡ true → Shows (a ∷ b ∷ bs) (if u then behind_dashes bs else unknown)
    second true f e = third bs e f
    second false f e = (
      ap (λ t. t && ((b == 45) && bytes_eq bs [])) e ∙ ap (λ t. t && bytes_eq bs []) f,
      ap (λ t. option_and_then long_of_rest (option_and_then (strip_byte 45) (if t then Some (b ∷ bs) else None))) e ∙ ap (λ t. option_and_then long_of_rest (if t then Some bs else None)) f,
      record {
        flags = b ∷ bs;
        is_short = ap (λ t. option_and_then short_of_rest (if t then Some (b ∷ bs) else None)) e ∙ ap (λ t. if t then None else Some (b ∷ bs)) f;
        is = ap (λ x. x ∷ b ∷ bs) (eqb-true a 45 e);
        some = omega arith;
      },
    )

    first : (t : Bool) → (a == 45) ≡ t → Shows (a ∷ b ∷ bs) (by_first t b bs)
    first true e = second (b == 45) refl e
    first false e = (
      ap (λ t. t && ((b == 45) && bytes_eq bs [])) e,
      ap (λ t. option_and_then long_of_rest (option_and_then (strip_byte 45) (if t then Some (b ∷ bs) else None))) e,
      ap (λ t. option_and_then short_of_rest (if t then Some (b ∷ bs) else None)) e,
    )

-- a text with a hyphen has a character behind it
pub has_flag : (flags : List ℕ) → IsUtf8 (45 ∷ flags) → 0 < length flags → (x : ℕ) × (slice_get (chars flags) 0 ≡ Some x)
has_flag flags text some = by (chars flags) refl
  where
    valid : IsUtf8 flags
    valid = IsUtf8-drop (45 ∷ flags) 1 text (IsCharBoundary-after_ascii (45 ∷ flags) 0 text (omega arith) (omega arith))

    by : (cs : List ℕ) → chars flags ≡ cs → (x : ℕ) × (slice_get cs 0 ≡ Some x)
    by [] none = let bare : flags ≡ [] = sym (encodes-chars flags valid) ∙ ap encodes none in let long = ap length bare in absurd (omega arith)
    by (x ∷ xs) is = (x, refl)
