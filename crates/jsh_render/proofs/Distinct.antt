-- One name more, where each is listed once.
use Rattle.std.proofs.Common.{◌≡◌, ℕ, suc, ◌+◌, ◌<◌, Bool, true, false, List, [], ◌∷◌, ◌++◌, length, drop, get_or, nat_eq, ap, sym, ◌∙◌, arith}
use Rattle.std.proofs.Math.Seq.{drop-cons}
use Rattle.std.specs.Cmp.Lexicographic.{pointwise}
use Rattle.std.specs.List.{list_any}
use Rattle.jsh_render.specs.Names.{further}

-- the name was listed before
abbrev pub is_listed : List ℕ → List (List ℕ) → Bool
is_listed name before = list_any (λ found. pointwise nat_eq found name) before

old_name : (before names : List (List ℕ)) (name : List ℕ) → is_listed name before ≡ true → further before (name ∷ names) ≡ further before names
old_name before names name is = rw is

new_name : (before names : List (List ℕ)) (name : List ℕ) → is_listed name before ≡ false → further before (name ∷ names) ≡ further (before ++ name ∷ []) names
new_name before names name is = rw is

next : (names : List (List ℕ)) (at : ℕ) (name : List ℕ) → at < length names → name ≡ get_or names at name → drop at names ≡ name ∷ drop (at + 1) names
next names at name within is =
    let one : at + 1 ≡ suc at = omega arith in
    drop-cons names at name within ∙ ap (λ n. n ∷ drop (suc at) names) (sym is) ∙ ap (λ k. name ∷ drop k names) (sym one)

pub listed_stays : (before names : List (List ℕ)) (at : ℕ) (name : List ℕ) → at < length names → name ≡ get_or names at name → is_listed name before ≡ true →
    further before (drop (at + 1) names) ≡ further before (drop at names)
listed_stays before names at name within is listed =
    sym (ap (further before) (next names at name within is) ∙ old_name before (drop (at + 1) names) name listed)

pub listed_now : (before names : List (List ℕ)) (at : ℕ) (name : List ℕ) → at < length names → name ≡ get_or names at name → is_listed name before ≡ false →
    further (before ++ name ∷ []) (drop (at + 1) names) ≡ further before (drop at names)
listed_now before names at name within is listed =
    sym (ap (further before) (next names at name within is) ∙ new_name before (drop (at + 1) names) name listed)
