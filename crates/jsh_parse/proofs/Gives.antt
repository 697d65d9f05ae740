-- What a reader gives, if it gives anything.
use Rattle.std.proofs.Common.{◌≡◌, Bool, true, false, if◌then◌else◌, List, [], ◌∷◌, Option, Some, None, refl, subst}
use Rattle.jsh_tree.specs.declared.token.Token.{Token}
use Rattle.jsh_tree.specs.declared.token.TokenKind.{TokenKind}
use Rattle.jsh_parse.specs.Reader.{Read, and_then, accept}

abbrev pub GivesAs : {A : Type 0} → (A → List Token → Type 0) → Read A → Type 0
GivesAs P None = Unit {0}
GivesAs P (Some found) = P found.0 found.1

-- it holds of what is given and of the tokens behind it
pub record Gives {A : Type 0} (P : A → List Token → Type 0) (r : Read A) : Type 0 where
  pub holds : GivesAs P r

pub nothing : {A : Type 0} {P : A → List Token → Type 0} → Gives P None
nothing = record { holds = tt }

pub given : {A : Type 0} {P : A → List Token → Type 0} (a : A) (rest : List Token) → P a rest → Gives P (Some (a, rest))
given a rest h = record { holds = h }

pub of_given : {A : Type 0} (P : A → List Token → Type 0) (r : Read A) (a : A) (rest : List Token) → Gives P r → r ≡ Some (a, rest) → P a rest
of_given P r a rest g e = (subst (λ (x : Read _). Gives P x) e g).holds

pub weaker_given : {A : Type 0} {P : A → List Token → Type 0} (Q : A → List Token → Type 0) (r : Read A) → Gives Q r → ((a : A) (rest : List Token) → Q a rest → P a rest) → Gives P r
weaker_given Q None g h = nothing
weaker_given Q (Some found) g h = record { holds = h found.0 found.1 g.holds }

pub then_given : {A B : Type 0} {P : B → List Token → Type 0} (Q : A → List Token → Type 0) (r : Read A) (f : A → List Token → Read B) →
    Gives Q r → ((a : A) (rest : List Token) → Q a rest → Gives P (f a rest)) → Gives P (and_then r f)
then_given Q None f g h = nothing
then_given Q (Some found) f g h = h found.0 found.1 g.holds

pub choose : {A : Type 0} {P : A → List Token → Type 0} (b : Bool) (x y : Read A) →
    (b ≡ true → Gives P x) → (b ≡ false → Gives P y) → Gives P (if b then x else y)
choose true x y f g = f refl
choose false x y f g = g refl

pub by_option : {A B : Type 0} {P : B → List Token → Type 0} (o : Option A) (x : Read B) (y : A → Read B) →
    (o ≡ None → Gives P x) → ((a : A) → o ≡ Some a → Gives P (y a)) → Gives P (elim o [ None ↦ x | Some a ↦ y a ])
by_option None x y f g = f refl
by_option (Some a) x y f g = g a refl

-- the same where each case still waits for the tokens
pub by_option_at : {A B : Type 0} {P : B → List Token → Type 0} (o : Option A) (ts : List Token) (x : List Token → Read B) (y : A → List Token → Read B) →
    (o ≡ None → Gives P (x ts)) → ((a : A) → o ≡ Some a → Gives P (y a ts)) → Gives P ((elim o as (λ o'. List Token → Read B) [ None ↦ x | Some a ↦ y a ]) ts)
by_option_at None ts x y f g = f refl
by_option_at (Some a) ts x y f g = g a refl

pub by_list : {B : Type 0} {P : B → List Token → Type 0} (ts : List Token) (x : Read B) (y : Token → List Token → Read B) →
    (ts ≡ [] → Gives P x) → ((u : Token) (us : List Token) → ts ≡ u ∷ us → Gives P (y u us)) → Gives P (elim ts [ [] ↦ x | u ∷ us ↦ y u us ])
by_list [] x y f g = f refl
by_list (u ∷ us) x y f g = g u us refl

pub accepts : (test : TokenKind → Bool) (ts : List Token) → Gives (λ t rest. (ts ≡ t ∷ rest) × (test t.kind ≡ true)) (accept test ts)
accepts test [] = nothing
accepts test (t ∷ ts) = choose (test t.kind) _ _ (λ h. given t ts (refl, h)) (λ h. nothing)
