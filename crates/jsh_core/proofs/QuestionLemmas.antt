-- One repetition more.
use Rattle.std.proofs.Common.{◌≡◌, ℕ, zero, suc, ◌+◌, List, ◌++◌, ap, sym, ◌∙◌, append_assoc, add-one}
use Rattle.std.specs.List.{repeat}
use Rattle.std.proofs.lemmas.List.{append-nil}

repeat_suc : (n : ℕ) (xs : List ℕ) → repeat n xs ++ xs ≡ repeat (suc n) xs
repeat_suc zero xs = sym (append-nil xs)
repeat_suc (suc n) xs = append_assoc xs (repeat n xs) xs ∙ ap (λ rest. xs ++ rest) (repeat_suc n xs)

-- one repetition more
pub repeat_more : (n : ℕ) (xs : List ℕ) → repeat n xs ++ xs ≡ repeat (n + 1) xs
repeat_more n xs = rw add-one (repeat_suc n xs)
