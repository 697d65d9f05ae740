-- How an answer of the parser follows from those of the functions that it calls.
use Rattle.std.proofs.Common.{◌≡◌, ℕ, ◌+◌, ◌≤◌, List, None, drop, refl, sym, subst, ◌∙◌}
use Rattle.std.proofs.Math.Nat.{le_trans}
use Rattle.std.specs.Prelude.{Result, Ok, Err}
use Rattle.std.specs.Result.{IsErrAnd}
use Rattle.std.proofs.lemmas.List.{drop-drop}
use Rattle.jsh_tree.specs.declared.token.Token.{Token}
use Rattle.jsh_parse.specs.declared.error.ParseError.{ParseError}
use Rattle.jsh_parse.specs.declared.error.ParseError.TheVariants as error
use Rattle.jsh_parse.specs.Reader.{Read}
use Rattle.jsh_parse.specs.Reading.{Reads, IsWanted}

-- where a reader fails because another one does, the error is handed on
pub passes : {A B : Type 0} (tokens : List Token) (a b : ℕ) (X : Read A) (Y : Read B) (e : ParseError) →
    (Y ≡ None → X ≡ None) → Reads tokens a Y (Err e) → Reads tokens b X (Err e)
passes tokens a b X Y error.NoMemory h r = tt
passes tokens a b X Y (error.Wanted place wanted) h r = h r
passes tokens a b X Y (error.TooDeep limit) h r = (h r.0, r.1)

-- where a reader fails, the token there is refused
pub refuses : {A : Type 0} (tokens : List Token) (at : ℕ) (X : Read A) (e : ParseError) → IsWanted e → X ≡ None → Reads tokens at X (Err e)
refuses tokens at X error.NoMemory w h = absurd w
refuses tokens at X (error.Wanted place wanted) w h = h
refuses tokens at X (error.TooDeep limit) w h = absurd w

-- the tokens behind the first one
pub next : (tokens : List Token) (at : ℕ) → drop 1 (drop at tokens) ≡ drop (at + 1) tokens
next tokens at = drop-drop 1 at tokens

-- an error that is handed on
pub hands_on : {A B : Type 0} (tokens : List Token) (a b : ℕ) (X : Read A) (Y : Read B) (e : ParseError) (r : Result (A × ℕ) ParseError) → IsErrAnd r (λ f. f ≡ e) →
    (Y ≡ None → X ≡ None) → Reads tokens a Y (Err e) → Reads tokens b X r
hands_on tokens a b X Y e (Ok found) same h y = absurd same
hands_on tokens a b X Y e (Err f) same h y = subst (λ f. Reads tokens b X (Err f)) (sym same) (passes tokens a b X Y e h y)

-- want of memory
pub out_of_memory : {A : Type 0} (tokens : List Token) (b : ℕ) (X : Read A) (r : Result (A × ℕ) ParseError) → IsErrAnd r (λ f. f ≡ error.NoMemory) → Reads tokens b X r
out_of_memory tokens b X (Ok found) same = absurd same
out_of_memory tokens b X (Err f) same = subst (λ f. Reads tokens b X (Err f)) (sym same) tt

-- want of room
pub too_deep : {A : Type 0} (tokens : List Token) (b : ℕ) (X : Read A) (e : ParseError) (r : Result (A × ℕ) ParseError) → IsErrAnd r (λ f. f ≡ e) →
    e ≡ error.TooDeep 256 → X ≡ None → Reads tokens b X r
too_deep tokens b X e (Ok found) same d h = absurd same
too_deep tokens b X e (Err f) same d h = subst (λ f. Reads tokens b X (Err f)) (sym (same ∙ d)) (h, refl)

-- what one reader gives another one gives
pub as_read : {A : Type 0} (tokens : List Token) (a b : ℕ) (X Y : Read A) (r : Result (A × ℕ) ParseError) → a ≤ b → X ≡ Y → Reads tokens b Y r → Reads tokens a X r
as_read tokens a b X Y (Ok found) l e h = (le_trans l h.0, e ∙ h.1)
as_read tokens a b X Y (Err error.NoMemory) l e h = tt
as_read tokens a b X Y (Err (error.Wanted place wanted)) l e h = e ∙ h
as_read tokens a b X Y (Err (error.TooDeep limit)) l e h = (e ∙ h.0, h.1)

-- likewise, with the error first
pub handed : {A B : Type 0} (tokens : List Token) (b : ℕ) (X : Read A) (Y : Read B) (e : ParseError) (r : Result (A × ℕ) ParseError) → IsErrAnd r (λ f. f ≡ e) →
    Reads tokens b Y (Err e) → (Y ≡ None → X ≡ None) → Reads tokens b X r
handed tokens b X Y e r same y h = hands_on tokens b b X Y e r same h y
