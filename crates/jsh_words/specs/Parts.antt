-- The parts of a command line: its options with their values, and its scripts. A word is the list of its bytes.
use Rattle.std.specs.Prelude.{ℕ, Bool, ◌==◌, List, [], ◌∷◌, map, codes, if◌then◌else◌, Option, None, Some, option_map}
use Rattle.std.specs.List.{list_any, filter, before_first, after_first}
use Rattle.std.specs.Str.{bytes_eq}

-- a name and a value
abbrev pub Part : Type 0
Part = List ℕ × List ℕ

-- the names of the options
abbrev pub options : List (List ℕ)
options = codes "workers" ∷ codes "budget" ∷ codes "journal" ∷ codes "startup" ∷ codes "demo" ∷ codes "replay" ∷ []

abbrev pub is_option : List ℕ → Bool
is_option name = list_any (λ option. bytes_eq option name) options

-- the name under which a script stands
abbrev pub script : List ℕ
script = codes "script"

-- what a word is by itself
pub data Word : Type 0 where
  -- `--`, behind which each word is a script
  rest : Word
  -- `--NAME`, or `--NAME=VALUE`
  option : List ℕ → Option (List ℕ) → Word
  -- any other word that begins with `-` and goes on
  unknown : Word
  -- a word that is a value or a script
  plain : Word

-- whether a byte is `=`
abbrev pub is_equals : ℕ → Bool
is_equals b = b == 61

-- `--` with this behind it
abbrev pub behind_dashes : List ℕ → Word
behind_dashes [] = rest
behind_dashes (b ∷ bs) = option (before_first is_equals (b ∷ bs)) (if list_any is_equals (b ∷ bs) then Some (after_first is_equals (b ∷ bs)) else None)

abbrev pub word_of : List ℕ → Word
word_of [] = plain
word_of (a ∷ []) = plain
word_of (a ∷ b ∷ bs) = if a == 45 then (if b == 45 then behind_dashes bs else unknown) else plain

-- the same with one part before
abbrev pub with_part : List ℕ → List ℕ → Option (List Part) → Option (List Part)
with_part name value = option_map (λ parts. (name, value) ∷ parts)

-- What a word and the words behind it give, where this option waits for its value, and by what the words behind it give.
abbrev pub step : Option (List ℕ) → Word → List ℕ → List (List ℕ) → (Option (List ℕ) → Option (List Part)) → Option (List Part)
step None plain word words behind = with_part script word (behind None)
step None rest word words behind = Some (map (λ name. (script, name)) words)
step None (option name (Some value)) word words behind = if is_option name then with_part name value (behind None) else None
step None (option name None) word words behind = if is_option name then behind (Some name) else None
step None unknown word words behind = None
step (Some name) plain word words behind = with_part name word (behind None)
step (Some name) _ word words behind = None

-- The parts of the words, where this option waits for its value.
abbrev pub parts_from : Option (List ℕ) → List (List ℕ) → Option (List Part)
parts_from None [] = Some []
parts_from (Some name) [] = None
parts_from waiting (word ∷ words) = step waiting (word_of word) word words (λ next. parts_from next words)

-- The parts of a command line. It has none where a word is no part, or an option lacks its value.
abbrev pub parts : List (List ℕ) → Option (List Part)
parts words = parts_from None words

-- the values that stand under a name
abbrev pub values_of : List ℕ → List Part → List (List ℕ)
values_of name parts = map (λ part. part.1) (filter (λ part. bytes_eq part.0 name) parts)
