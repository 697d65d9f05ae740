-- Bytes that are told, and then more bytes.
use Rattle.std.proofs.Common.{◌≡◌, ℕ, ◌+◌, ◌-◌, List, [], ◌++◌, length, take, drop, refl, ap, append_assoc, sym, ◌∙◌, arith, length-drop}
use Rattle.std.specs.Prelude.{Option, None, Some}
use Rattle.std.proofs.lemmas.List.{append-nil, take_all}
use Rattle.std.proofs.Math.Seq.{take-add}
use Rattle.std.specs.Io.KnownBytes.{append_known, prepend_known}

-- what is added in two steps is added in one
pub append_known-append_known : (known : Option (List ℕ)) (xs ys : List ℕ) → append_known (append_known known xs) ys ≡ append_known known (xs ++ ys)
append_known-append_known None xs ys = refl
append_known-append_known (Some bytes) xs ys = ap Some (append_assoc bytes xs ys)

-- nothing is added
pub append_known-nil : (known : Option (List ℕ)) → append_known known [] ≡ known
append_known-nil None = refl
append_known-nil (Some bytes) = ap Some (append-nil bytes)

-- what is read in two steps is read in one
pub prepend_known-prepend_known : (xs ys : List ℕ) (known : Option (List ℕ)) → prepend_known xs (prepend_known ys known) ≡ prepend_known (xs ++ ys) known
prepend_known-prepend_known xs ys None = refl
prepend_known-prepend_known xs ys (Some bytes) = ap Some (sym (append_assoc xs ys bytes))

-- nothing is read
pub prepend_known-nil : (known : Option (List ℕ)) → prepend_known [] known ≡ known
prepend_known-nil None = refl
prepend_known-nil (Some bytes) = refl

-- a slice from i on is the rest
pub take-drop_rest : (i : ℕ) (xs : List ℕ) → take (length xs - i) (drop i xs) ≡ drop i xs
take-drop_rest i xs = take_all (length xs - i) (drop i xs) (omega (arith, length-drop i xs))

-- a sink that took the first of a piece, and then some of its rest, took the first of it
pub append_known-take : (known now next : Option (List ℕ)) (piece : List ℕ) (done taken : ℕ)
    → now ≡ append_known known (take done piece)
    → next ≡ append_known now (take taken (take (length piece - done) (drop done piece)))
    → next ≡ append_known known (take (done + taken) piece)
append_known-take known now next piece done taken before step =
    step ∙ ap (λ k. append_known k (take taken (take (length piece - done) (drop done piece)))) before
    ∙ append_known-append_known known (take done piece) (take taken (take (length piece - done) (drop done piece)))
    ∙ ap (λ xs. append_known known (take done piece ++ take taken xs)) (take-drop_rest done piece)
    ∙ ap (append_known known) (sym (take-add done taken piece))
