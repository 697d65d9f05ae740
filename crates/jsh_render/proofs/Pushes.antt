-- Pieces that are pushed one after another.
use Rattle.std.proofs.Common.{◌≡◌, ℕ, List, ◌++◌, ap, ◌∙◌, append_assoc}
use Rattle.std.specs.Prelude.{Result, Ok, Err, OnOk}

-- a piece in front of what is known of the rest
seam : (old a b y z : List ℕ) → y ≡ old ++ a → z ≡ y ++ b → z ≡ old ++ (a ++ b)
seam old a b y z first second = second ∙ ap (λ xs. xs ++ b) first ∙ append_assoc old a b

pub two : {T E : Type 0} (r : Result T E) (old a b y z : List ℕ) → y ≡ old ++ a → OnOk r (z ≡ y ++ b) → OnOk r (z ≡ old ++ (a ++ b))
two (Ok v) old a b y z first second = seam old a b y z first second
two (Err e) old a b y z first second = second

pub three : {T E : Type 0} (r : Result T E) (old a b c x y z : List ℕ) → x ≡ old ++ a → y ≡ x ++ b → OnOk r (z ≡ y ++ c) → OnOk r (z ≡ old ++ (a ++ b ++ c))
three r old a b c x y z first second third = two r old (a ++ b) c y z (seam old a b x y first second) third

pub four : {T E : Type 0} (r : Result T E) (old a b c d w x y z : List ℕ) → w ≡ old ++ a → x ≡ w ++ b → y ≡ x ++ c → OnOk r (z ≡ y ++ d) →
    OnOk r (z ≡ old ++ (a ++ b ++ c ++ d))
four r old a b c d w x y z first second third fourth = three r old (a ++ b) c d x y z (seam old a b w x first second) third fourth

pub five : {T E : Type 0} (r : Result T E) (old a b c d e v w x y z : List ℕ) → v ≡ old ++ a → w ≡ v ++ b → x ≡ w ++ c → y ≡ x ++ d →
    OnOk r (z ≡ y ++ e) → OnOk r (z ≡ old ++ (a ++ b ++ c ++ d ++ e))
five r old a b c d e v w x y z first second third fourth fifth = four r old (a ++ b) c d e w x y z (seam old a b v w first second) third fourth fifth

pub six : {T E : Type 0} (r : Result T E) (old a b c d e f u v w x y z : List ℕ) → u ≡ old ++ a → v ≡ u ++ b → w ≡ v ++ c → x ≡ w ++ d → y ≡ x ++ e →
    OnOk r (z ≡ y ++ f) → OnOk r (z ≡ old ++ (a ++ b ++ c ++ d ++ e ++ f))
six r old a b c d e f u v w x y z first second third fourth fifth sixth =
    five r old (a ++ b) c d e f v w x y z (seam old a b u v first second) third fourth fifth sixth
