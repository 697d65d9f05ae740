-- Where the first fault of a text stands.
use Rattle.std.proofs.Common.{◌≡◌, ℕ, zero, suc, ◌≤◌, List, [], ◌∷◌, ◌++◌, length, Some, sym, ap, subst, arith}
use Rattle.std.specs.Str.{IsUtf8, IsCharBoundary, chars}
use Rattle.std.proofs.lemmas.Str.{encodes-chars, IsCharBoundary-from_drop}
use Rattle.jsh_lex.specs.declared.lexeme.LexFault.{LexFault}
use Rattle.jsh_lex.specs.declared.lexeme.Lexeme.{Lexeme}
use Rattle.jsh_lex.specs.declared.lexeme.Lexeme.TheVariants.{Gap, Spelled, Wrong}
use Rattle.jsh_lex.specs.Chars.{width}
use Rattle.jsh_lex.specs.Lexis.{front, lexed, add_lexeme, place, tokens}
use Rattle.jsh_lex.proofs.Explained.{ExplainsAs, explained}
use Rattle.jsh_pieces.proofs.LexisBehind.{Halves, later_half, whole_half, half_place, half_bytes, half_scalars}
use Rattle.jsh_pieces.proofs.LexisOpen.{same_place}
use Rattle.jsh_pieces.proofs.LexisSteps.{width-append}

-- a half of a text begins between characters
half_between : (bytes xs cs : List ℕ) → Halves bytes xs cs → IsCharBoundary bytes (place (chars bytes) cs)
half_between bytes xs cs half =
    let within : width xs ≤ length bytes = omega (arith, ap length (encodes-chars bytes half.utf8), ap width half.parts, width-append xs cs) in
    subst (λ (k : ℕ). IsCharBoundary bytes k) (sym (half_place bytes xs cs half))
    (IsCharBoundary-from_drop bytes (width xs) within (cs, (half_scalars bytes xs cs half, sym (half_bytes bytes xs cs half))))

rest_fault : (n : ℕ) (bytes xs cs : List ℕ) (kind : LexFault) (at : ℕ) → Halves bytes xs cs → (lexed n (chars bytes) cs).fault ≡ Some (kind, at) → IsCharBoundary bytes at
rest_fault zero bytes xs [] kind at half is = absurd cc
rest_fault zero bytes xs (d ∷ cs) kind at half is = absurd cc
rest_fault (suc n) bytes xs [] kind at half is = absurd cc
rest_fault (suc n) bytes xs (d ∷ cs) kind at half is =
    let go : (l : Lexeme) (rest : List ℕ) → ExplainsAs l (d ∷ cs) rest
    → (add_lexeme l (place (chars bytes) (d ∷ cs)) (place (chars bytes) rest) (lexed n (chars bytes) rest)).fault ≡ Some (kind, at) → IsCharBoundary bytes at
    = λ l. elim l as (λ v. (rest : List ℕ) → ExplainsAs v (d ∷ cs) rest
    → (add_lexeme v (place (chars bytes) (d ∷ cs)) (place (chars bytes) rest) (lexed n (chars bytes) rest)).fault ≡ Some (kind, at) → IsCharBoundary bytes at) [
      | Gap ↦ λ rest x e. rest_fault n bytes (xs ++ x.0) rest kind at (later_half bytes xs (d ∷ cs) x.0 rest x.1 half) e
      | Spelled k ↦ λ rest x e. rest_fault n bytes (xs ++ x.s) rest kind at (later_half bytes xs (d ∷ cs) x.s rest x.parts half) e
      | Wrong fault ↦ λ rest x e. subst (λ (k : ℕ). IsCharBoundary bytes k) (same_place (fault, place (chars bytes) (d ∷ cs)) (kind, at) e) (half_between bytes xs (d ∷ cs) half)
    ] in
    go (front (d ∷ cs)).0 (front (d ∷ cs)).1 (explained (d ∷ cs)).holds is

-- The first fault of a text begins between characters.
pub fault_between : (text : List ℕ) (kind : LexFault) (at : ℕ) → IsUtf8 text → (tokens text).fault ≡ Some (kind, at) → IsCharBoundary text at
unfolding tokens
fault_between text kind at u is = rest_fault (length text) text [] (chars text) kind at (whole_half text u) is
