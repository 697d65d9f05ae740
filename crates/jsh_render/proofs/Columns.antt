-- How a column goes on with one byte more.
use Rattle.std.proofs.Common.{◌≡◌, ℕ, ◌+◌, ◌<◌, Bool, true, false, not, cond, List, [], ◌∷◌, ◌++◌, length, get_or, take, take_while, reverse, count_by, refl, ap, ◌∙◌, arith}
use Rattle.std.proofs.lemmas.List.{reverse-append, take_more}
use Rattle.std.proofs.lemmas.List.Sums.{take_while-cons, sum_by-cons}
use Rattle.jsh_render.specs.Place.{is_line_feed, begins_character, back_to_line_feed, column_behind, next_column}

-- the characters of a line to which a byte is added, after whether it ends the line and whether it begins a character
characters_more : (ends begins : Bool) (p : ℕ → Bool) (x : ℕ) (line : List ℕ) → p x ≡ begins →
    count_by p (cond (not ends) (x ∷ line) []) + 1 ≡ cond ends 1 (cond begins (count_by p line + 1 + 1) (count_by p line + 1))
characters_more true begins p x line e = refl
characters_more false true p x line e =
    omega (arith, sum_by-cons (λ y. cond (p y) 1 0) x line, ap {B = ℕ} (λ b. cond b 1 0) e)
characters_more false false p x line e =
    omega (arith, sum_by-cons (λ y. cond (p y) 1 0) x line, ap {B = ℕ} (λ b. cond b 1 0) e)

pub column-append : (xs : List ℕ) (x : ℕ) → column_behind (xs ++ x ∷ []) ≡ next_column (column_behind xs) x
column-append xs x =
    ap (λ bytes. count_by begins_character (take_while (λ byte. not (is_line_feed byte)) bytes) + 1) (reverse-append xs (x ∷ [])) ∙
    ap (λ bytes. count_by begins_character bytes + 1) (take_while-cons (λ byte. not (is_line_feed byte)) x (reverse xs)) ∙
    characters_more (is_line_feed x) (begins_character x) begins_character x (back_to_line_feed xs) refl

pub column-more : (xs : List ℕ) (i : ℕ) → i < length xs →
    column_behind (take (i + 1) xs) ≡ next_column (column_behind (take i xs)) (get_or xs i 0)
column-more xs i lt = ap column_behind (take_more xs i 0 lt) ∙ column-append (take i xs) (get_or xs i 0)
