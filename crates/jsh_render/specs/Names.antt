-- The names that a snippet lacks, as feedback lists them: `g is`, `g and x are`, `f, g and x are`.
use Rattle.std.specs.Cmp.Lexicographic.{pointwise}
use Rattle.std.specs.Prelude.{ℕ, nat_eq, List, [], ◌∷◌, ◌++◌, codes, if◌then◌else◌}
use Rattle.std.specs.List.{list_any}

-- the names behind some, each once, where it stands first
abbrev pub further : List (List ℕ) → List (List ℕ) → List (List ℕ)
further before [] = before
further before (name ∷ names) =
    if list_any (λ found. pointwise nat_eq found name) before then further before names else further (before ++ name ∷ []) names

-- the names, each once, where it stands first
abbrev pub distinct : List (List ℕ) → List (List ℕ)
distinct names = further [] names

-- what stands between a name and those behind it
abbrev pub separator : List (List ℕ) → List ℕ
separator [] = []
separator (last ∷ []) = codes " and "
separator _ = codes ", "

abbrev pub enumerated : List (List ℕ) → List ℕ
enumerated [] = []
enumerated (name ∷ names) = name ++ separator names ++ enumerated names

abbrev pub verb : List (List ℕ) → List ℕ
verb (name ∷ []) = codes " is"
verb _ = codes " are"

-- the missing names with their verb
abbrev pub names_text : List (List ℕ) → List ℕ
names_text names = enumerated (distinct names) ++ verb (distinct names)
