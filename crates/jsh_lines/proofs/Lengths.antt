-- How long lines and their texts are.
use Rattle.std.proofs.Common.{◌≡◌, ℕ, zero, suc, ◌+◌, ◌*◌, ◌<◌, ◌≤◌, List, ◌++◌, length, take, drop, ⊎_elim, arith, length-append, length-drop}
use Rattle.std.specs.Str.Lossy.{utf8_valid_len, replacement_bytes}
use Rattle.std.proofs.lemmas.Str.{utf8_valid_len_le}
use Rattle.std.proofs.lemmas.Bool.{cases_lt}
use Rattle.jsh_lines.specs.Lines.{as_text, as_text_within}
use Rattle.jsh_lines.proofs.Texts.{within_valid, within_fault, length-front}

length-within : (most : ℕ) (bytes : List ℕ) → length (as_text_within most bytes) ≤ 3 * length bytes
length-within zero bytes = omega arith
length-within (suc most) bytes = let within = utf8_valid_len_le bytes in ⊎_elim
    (λ (short : utf8_valid_len bytes < length bytes).
    let faulty : ¬ (utf8_valid_len bytes ≡ length bytes) = omega arith in
    let left = drop (utf8_valid_len bytes + 1) bytes in
    rw (within_fault most bytes faulty)
    (omega (
      arith,
      length-append (take (utf8_valid_len bytes) bytes) (replacement_bytes ++ as_text_within most left),
      length-append replacement_bytes (as_text_within most left),
      length-front bytes,
      length-drop (utf8_valid_len bytes + 1) bytes,
      length-within most left,
    )))
    (λ (whole : length bytes ≤ utf8_valid_len bytes). let same : utf8_valid_len bytes ≡ length bytes = omega arith in rw (within_valid (suc most) bytes same) (omega arith))
    (cases_lt (utf8_valid_len bytes) (length bytes))

-- A text has at most three times the bytes of its line.
pub length-as_text : (bytes : List ℕ) → length (as_text bytes) ≤ 3 * length bytes
unfolding as_text
length-as_text bytes = length-within (length bytes) bytes
