-- The turns of a loop that takes one item after another.
use Rattle.std.proofs.Common.{◌≡◌, ℕ, zero, suc, List, [], ◌∷◌, ◌++◌, Option, Some, None, ap, ◌∙◌}
use Rattle.jsh_tree.specs.declared.token.Token.{Token}
use Rattle.jsh_parse.specs.Reader.{Read, and_then}
use Rattle.jsh_parse.proofs.Onward.{further, prepend, step_more, step_end, step_fails}

module _ {A : Type 0} (run : ℕ → List Token → Read (List A)) (step : List Token → Read (Option A))
    (more : (most : ℕ) (ts : List Token) → run (suc most) ts ≡ and_then (step ts) (further (run most))) (whole : Read (List A)) where
  pub turn_fails : (m k : ℕ) (items : List A) (ts : List Token) → m ≡ suc k → whole ≡ prepend items (run m ts) → step ts ≡ None → whole ≡ None
  turn_fails m k items ts e h s = h ∙ ap (λ n. prepend items (run n ts)) e ∙ ap (prepend items) (more k ts) ∙ step_fails items (run k) (step ts) s

  pub turn_ends : (m k : ℕ) (items : List A) (ts rest : List Token) → m ≡ suc k → whole ≡ prepend items (run m ts) → step ts ≡ Some (None, rest) →
      whole ≡ Some (items, rest)
  turn_ends m k items ts rest e h s = h ∙ ap (λ n. prepend items (run n ts)) e ∙ ap (prepend items) (more k ts) ∙ step_end items rest (run k) (step ts) s

  pub turn_goes_on : (m k : ℕ) (items : List A) (a : A) (ts rest : List Token) → m ≡ suc k → whole ≡ prepend items (run m ts) → step ts ≡ Some (Some a, rest) →
      whole ≡ prepend (items ++ a ∷ []) (run k rest)
  turn_goes_on m k items a ts rest e h s = h ∙ ap (λ n. prepend items (run n ts)) e ∙ ap (prepend items) (more k ts) ∙ step_more items a rest (run k) (step ts) s

-- where no turn is left, nothing is read
pub turns_end : {A : Type 0} (run : ℕ → List Token → Read (List A)) → ((ts : List Token) → run zero ts ≡ None) → (whole : Read (List A)) →
    (m : ℕ) (items : List A) (ts : List Token) → m ≡ zero → whole ≡ prepend items (run m ts) → whole ≡ None
turns_end run nothing whole m items ts e h = h ∙ ap (λ n. prepend items (run n ts)) e ∙ ap (prepend items) (nothing ts)
