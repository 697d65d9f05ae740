-- Which command lines are accepted, and what each means.
use Rattle.std.specs.Prelude.{ℕ, Bool, true, false, not, ◌&&◌, ◌==◌, List, [], ◌∷◌, ◌++◌, length, nat_le, codes, if◌then◌else◌, Option, None, Some, option_map, option_and_then}
use Rattle.std.specs.List.{list_all, list_any}
use Rattle.std.specs.Str.{bytes_eq}
use Rattle.std.specs.Str.Parse.{digits_value}
use Rattle.jsh_words.specs.declared.meaning.Meaning.{Meaning}
use Rattle.jsh_words.specs.declared.meaning.Meaning.TheVariants.{Run, Demo, Replay}
use Rattle.jsh_words.specs.Parts.{Part, parts, values_of, script}

-- the values of each option, and the scripts
pub record Given : Type 0 where
  pub workers : List (List ℕ)
  pub budget : List (List ℕ)
  pub journal : List (List ℕ)
  pub startup : List (List ℕ)
  pub demo : List (List ℕ)
  pub replay : List (List ℕ)
  pub scripts : List (List ℕ)

abbrev pub given_by : List Part → Given
given_by ps = record {
  workers = values_of (codes "workers") ps;
  budget = values_of (codes "budget") ps;
  journal = values_of (codes "journal") ps;
  startup = values_of (codes "startup") ps;
  demo = values_of (codes "demo") ps;
  replay = values_of (codes "replay") ps;
  scripts = values_of script ps;
}

-- ---- numbers

abbrev pub is_digit : ℕ → Bool
is_digit b = nat_le 48 b && nat_le b 57

-- 1 to 10 decimal digits
abbrev pub is_number : List ℕ → Bool
is_number text = (nat_le 1 (length text) && nat_le (length text) 10) && list_all is_digit text

-- the number that a text is, from `least` to `most`
abbrev pub number : ℕ → ℕ → List ℕ → Option ℕ
number least most text = if is_number text && (nat_le least (digits_value 10 text) && nat_le (digits_value 10 text) most) then Some (digits_value 10 text) else None

-- that of an option that stands at most once, or the default where it doesn't stand
abbrev pub number_or : ℕ → ℕ → ℕ → List (List ℕ) → Option ℕ
number_or default least most [] = Some default
number_or default least most (text ∷ []) = number least most text
number_or default least most (text ∷ again ∷ more) = None

-- ---- files

-- a name isn't empty and doesn't begin with `-`
abbrev pub is_file : List ℕ → Bool
is_file [] = false
is_file (b ∷ bs) = not (b == 45)

-- the file of an option that stands at most once
abbrev pub file : List (List ℕ) → Option (Option (List ℕ))
file [] = Some None
file (name ∷ []) = if is_file name then Some (Some name) else None
file (name ∷ again ∷ more) = None

-- the names with those of their outputs
abbrev pub with_outputs : List (List ℕ) → List (List ℕ)
with_outputs [] = []
with_outputs (name ∷ names) = name ∷ (name ++ codes ".out") ∷ with_outputs names

abbrev pub are_distinct : List (List ℕ) → Bool
are_distinct [] = true
are_distinct (name ∷ names) = not (list_any (λ other. bytes_eq other name) names) && are_distinct names

-- the files that are read or written
abbrev pub files : Given → List (List ℕ)
files g = g.journal ++ (with_outputs g.startup ++ with_outputs g.scripts)

-- the scripts that are accepted
abbrev pub are_scripts : Given → Bool
are_scripts g = nat_le (length g.scripts) 32 && (list_all is_file g.scripts && are_distinct (files g))

-- ---- the three forms

abbrev pub is_empty : List (List ℕ) → Bool
is_empty [] = true
is_empty (x ∷ xs) = false

-- `[--workers N] [--budget N] [--journal FILE] [--startup FILE] [SCRIPT..]`
abbrev pub run : Given → Option Meaning
run g =
    option_and_then (λ workers.
    option_and_then (λ budget.
    option_and_then (λ journal.
    option_and_then (λ startup.
    if are_scripts g then Some (Run workers budget journal startup g.scripts) else None)
    (file g.startup)) (file g.journal)) (number_or 10000000 1 1000000000 g.budget)) (number_or 0 0 16 g.workers)

-- `--demo N`
abbrev pub demo : List (List ℕ) → Option Meaning
demo [] = None
demo (text ∷ []) = option_map Demo (number 1 8192 text)
demo (text ∷ again ∷ more) = None

-- `--replay FILE`
abbrev pub replay : List (List ℕ) → Option Meaning
replay [] = None
replay (name ∷ []) = if is_file name then Some (Replay name) else None
replay (name ∷ again ∷ more) = None

-- nothing is given that belongs to a run
abbrev pub has_no_run : Given → Bool
has_no_run g = is_empty g.workers && (is_empty g.budget && (is_empty g.journal && (is_empty g.startup && is_empty g.scripts)))

abbrev pub meant : Given → Option Meaning
meant g =
    if is_empty g.demo && is_empty g.replay then run g
    else (if not (has_no_run g) then None
    else (if is_empty g.replay then demo g.demo
    else (if is_empty g.demo then replay g.replay else None)))

-- What the words mean, where they are accepted.
abbrev pub meaning : List (List ℕ) → Option Meaning
meaning words = option_and_then (λ ps. meant (given_by ps)) (parts words)

-- ---- a replay

-- the words are accepted, and ask for a replay
abbrev pub is_replay : Option Meaning → Bool
is_replay (Some (Replay name)) = true
is_replay _ = false
