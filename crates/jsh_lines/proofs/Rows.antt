-- Some cuts and lines, computed from their definitions.
use Rattle.std.proofs.Common.{◌≡◌, true, false, [], ◌∷◌, refl}
use Rattle.jsh_lines.specs.Lines.{cut, input_lines}

-- "", "a", "a\n" and "\n"
cut-nothing : cut [] ≡ record { whole = []; rest = [] }
cut-nothing = refl

cut-unfinished : cut (97 ∷ []) ≡ record { whole = []; rest = 97 ∷ [] }
cut-unfinished = refl

cut-finished : cut (97 ∷ 10 ∷ []) ≡ record { whole = (97 ∷ []) ∷ []; rest = [] }
cut-finished = refl

cut-empty_line : cut (10 ∷ []) ≡ record { whole = [] ∷ []; rest = [] }
cut-empty_line = refl

-- "a\n\nb" and "a\r\n": a carriage return is part of its line
cut-lines : cut (97 ∷ 10 ∷ 10 ∷ 98 ∷ []) ≡ record { whole = (97 ∷ []) ∷ [] ∷ []; rest = 98 ∷ [] }
cut-lines = refl

cut-carriage_return : cut (97 ∷ 13 ∷ 10 ∷ []) ≡ record { whole = (97 ∷ 13 ∷ []) ∷ []; rest = [] }
cut-carriage_return = refl

-- "1\n\n2" before its end and at its end
input_lines-so_far : input_lines (49 ∷ 10 ∷ 10 ∷ 50 ∷ []) false ≡ (49 ∷ []) ∷ [] ∷ []
input_lines-so_far = refl

input_lines-ended : input_lines (49 ∷ 10 ∷ 10 ∷ 50 ∷ []) true ≡ (49 ∷ []) ∷ [] ∷ (50 ∷ []) ∷ []
input_lines-ended = refl

-- "1\n" at its end: the empty rest is no line
input_lines-empty_rest : input_lines (49 ∷ 10 ∷ []) true ≡ (49 ∷ []) ∷ []
input_lines-empty_rest = refl
