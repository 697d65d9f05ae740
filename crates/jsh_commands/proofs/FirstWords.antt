-- Going over a word, character by character.
use Rattle.std.proofs.Common.{◌≡◌, ℕ, suc, ◌+◌, ◌<◌, Bool, true, List, [], ◌∷◌, ◌++◌, length, take, drop, get_or, sym, ap, ◌∙◌, append_assoc, arith}
use Rattle.std.proofs.Math.Seq.{drop-cons}
use Rattle.std.proofs.lemmas.List.{take_more}
use Rattle.jsh_lex.specs.Chars.{take_while}

takes : (p : ℕ → Bool) (c : ℕ) (cs : List ℕ) → p c ≡ true → take_while p (c ∷ cs) ≡ c ∷ take_while p cs
takes p c cs h = rw h

-- One more character of the word.
pub word_grows : (p : ℕ → Bool) (bytes : List ℕ) (at : ℕ) → at < length bytes → p (get_or bytes at 0) ≡ true →
    take (at + 1) bytes ++ take_while p (drop (at + 1) bytes) ≡ take at bytes ++ take_while p (drop at bytes)
word_grows p bytes at h is =
    let one : at + 1 ≡ suc at = omega arith in
    let here : take_while p (drop at bytes) ≡ get_or bytes at 0 ∷ take_while p (drop (at + 1) bytes) =
    ap (take_while p) (drop-cons bytes at 0 h) ∙ takes p (get_or bytes at 0) (drop (suc at) bytes) is
    ∙ ap (λ n. get_or bytes at 0 ∷ take_while p (drop n bytes)) (sym one) in
    ap (λ xs. xs ++ take_while p (drop (at + 1) bytes)) (take_more bytes at 0 h)
    ∙ append_assoc (take at bytes) (get_or bytes at 0 ∷ []) (take_while p (drop (at + 1) bytes))
    ∙ ap (λ xs. take at bytes ++ xs) (sym here)
