-- Which command lines are served so far.
use Rattle.std.specs.Prelude.{ℕ, ◌==◌, List, [], Option, None, Some, option_and_then, if◌then◌else◌}
use Rattle.jsh_words.specs.declared.meaning.Meaning.{Meaning}
use Rattle.jsh_words.specs.declared.meaning.Meaning.TheVariants.{Run}
use Rattle.jsh_words.specs.Meant.{meaning}

-- the budget of one client over the standard streams alone, without pumps, journal, startup file and scripts
abbrev pub lone_budget : Meaning → Option ℕ
lone_budget (Run workers budget None None []) = if workers == 0 then Some budget else None
lone_budget _ = None

-- the budget with which these words are served, where they are
abbrev pub budget_of : List (List ℕ) → Option ℕ
budget_of words = option_and_then lone_budget (meaning words)
