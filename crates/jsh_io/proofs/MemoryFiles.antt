-- The files of a desk in memory, as a desk means them.
use Rattle.std.proofs.Common.{◌≡◌, ℕ, Bool, true, false, List, [], ◌∷◌, map, refl, ap, sym, ◌∙◌, cond}
use Rattle.std.specs.Prelude.{Option, Some, None, IfNone, option_map, if◌then◌else◌, not}
use Rattle.jsh_io.specs.Inputs.{bytes_of, others}
use Rattle.jsh_io.specs.Memory.{source_left}
use Rattle.jsh_io.specs.MemoryDesk.{file_of}
use Rattle.jsh_io.specs.Named.{is_named, first_named, others_named}
use Rattle.jsh_io.specs.declared.named.Named.{Named}
use Rattle.jsh_io.specs.declared.memory_desks.FreshSource.{FreshSource}

-- the bytes of a file are those of the first value of its name
pub bytes_of-file_of : (name : List ℕ) (inputs : List (Named FreshSource))
    → bytes_of name (map file_of inputs) ≡ option_map (λ fresh. source_left fresh.source) (first_named name inputs)
bytes_of-file_of name [] = refl
bytes_of-file_of name (input ∷ inputs) =
    elim (is_named name input) as (λ b.
    (if b then Some (source_left input.value.source) else bytes_of name (map file_of inputs))
    ≡ option_map (λ fresh. source_left fresh.source) (if b then Some input.value else first_named name inputs))
    [ true ↦ refl | false ↦ bytes_of-file_of name inputs ]

-- the files of any other name are the values of any other name
pub others-file_of : (name : List ℕ) (inputs : List (Named FreshSource))
    → others name (map file_of inputs) ≡ map file_of (others_named name inputs)
others-file_of name [] = refl
others-file_of name (input ∷ inputs) =
    elim (is_named name input) as (λ b.
    cond (not b) (file_of input ∷ others name (map file_of inputs)) (others name (map file_of inputs))
    ≡ map file_of (cond (not b) (input ∷ others_named name inputs) (others_named name inputs)))
    [ true ↦ others-file_of name inputs | false ↦ ap (λ files. file_of input ∷ files) (others-file_of name inputs) ]

-- where no value has the name, the others are all
pub others_named-none : (name : List ℕ) (inputs : List (Named FreshSource)) → first_named name inputs ≡ None → others_named name inputs ≡ inputs
others_named-none name [] none = refl
others_named-none name (input ∷ inputs) none =
    let P = λ (b : Bool). (if b then Some input.value else first_named name inputs) ≡ None → cond (not b) (input ∷ others_named name inputs) (others_named name inputs) ≡ input ∷ inputs in
    let at : P (is_named name input) = elim (is_named name input) as P [ true ↦ λ (e : Some input.value ≡ None). cc | false ↦ λ (e : first_named name inputs ≡ None). ap (λ rest. input ∷ rest) (others_named-none name inputs e) ] in
    at none

-- where none is taken, all files stay
pub missing-file : (name : List ℕ) (old new : List (Named FreshSource)) (taken : Option FreshSource)
    → taken ≡ first_named name old → new ≡ others_named name old → IfNone taken (map file_of new ≡ map file_of old)
missing-file name old new None first rest = ap (map file_of) (rest ∙ others_named-none name old (sym first))
missing-file name old new (Some fresh) first rest = tt
