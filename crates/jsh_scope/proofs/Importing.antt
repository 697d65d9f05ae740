-- One import more.
use Rattle.std.proofs.Common.{◌≡◌, ℕ, ◌+◌, ◌<◌, List, [], ◌∷◌, ◌++◌, length, get_or, take, Option, Some, None, refl, sym, ◌∙◌, ap}
use Rattle.std.specs.Option.{option_or}
use Rattle.std.proofs.lemmas.List.{take_more}
use Rattle.jsh_scope.specs.declared.imported.Imported.{Imported}
use Rattle.jsh_scope.specs.Imports.{last_given}
use Rattle.jsh_scope.proofs.Names.{or_none}

or_twice : {A : Type 0} (a b c : Option A) → option_or (option_or a b) c ≡ option_or a (option_or b c)
or_twice None b c = refl
or_twice (Some x) b c = refl

last_push : {A : Type 0} (given : Imported → Option A) (xs : List Imported) (x : Imported) → last_given given (xs ++ x ∷ []) ≡ option_or (given x) (last_given given xs)
last_push given [] x = sym (or_none (given x))
last_push {A} given (y ∷ ys) x = ap (λ (last : Option A). option_or last (given y)) (last_push given ys x) ∙ or_twice (given x) (last_given given ys) (given y)

pub last_more : {A : Type 0} (given : Imported → Option A) (xs : List Imported) (k : ℕ) (x : Imported) → k < length xs → x ≡ get_or xs k x → last_given given (take (k + 1) xs) ≡ option_or (given x) (last_given given (take k xs))
last_more {A} given xs k x below is = ap (last_given given) (take_more xs k x below) ∙ last_push given (take k xs) (get_or xs k x) ∙ ap (λ (y : Imported). option_or (given y) (last_given given (take k xs))) (sym is)
