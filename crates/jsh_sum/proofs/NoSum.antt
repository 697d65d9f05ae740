-- Behind an operand that is none, or a part that is none, there is no sum.
use Rattle.std.proofs.Common.{◌≡◌, ℕ, ◌<◌, List, length, take, get_or, fold, Option, Some, None, refl, ap, sym, ◌∙◌}
use Rattle.std.specs.Prelude.{option_map}
use Rattle.std.proofs.lemmas.List.Folds.{fold_stuck, fold_stays}
use Rattle.jsh_tree.specs.declared.expression.Operation.{Operation}
use Rattle.jsh_sum.specs.declared.reading.Operand.{Operand}
use Rattle.jsh_sum.specs.declared.reading.Reading.{Reading}
use Rattle.jsh_sum.specs.Reading.{begun, next, part_of, with_part}

pub no_first : (first : Option Operand) (rest : List Operation) → first ≡ None → None ≡ fold next (option_map begun first) rest
no_first first rest is = rw is (sym (fold_stays next None (λ operation. refl) rest))

pub no_part : (found : Option Operand) (first : Operand) (rest : List Operation) (at : ℕ) (read : Reading) (operation : Operation) →
    found ≡ Some first → at < length rest → Some read ≡ fold next (Some (begun first)) (take at rest) →
    part_of (get_or rest at operation) ≡ None → None ≡ fold next (option_map begun found) rest
no_part found first rest at read operation is within so_far none = rw is
    (fold_stuck next None (λ operation. refl) (Some (begun first)) rest at operation within
    (ap (λ state. next state (get_or rest at operation)) (sym so_far) ∙ ap (option_map (λ further. with_part read further)) none))
