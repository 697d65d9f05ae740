-- Words with which a replay is asked for, and nothing else.
use Rattle.std.specs.Prelude.{ℕ, Bool, true, false, ◌&&◌, List, [], ◌∷◌, codes}
use Rattle.std.specs.Str.{bytes_eq}
use Rattle.jsh_words.specs.Meant.{is_file}

-- no word stands there, or one `--`
abbrev pub is_end : List (List ℕ) → Bool
is_end [] = true
is_end (word ∷ []) = bytes_eq word (codes "--")
is_end (word ∷ next ∷ more) = false

-- the name of a file stands there alone
abbrev pub is_lone_file : List (List ℕ) → Bool
is_lone_file [] = false
is_lone_file (name ∷ words) = is_file name && is_end words
