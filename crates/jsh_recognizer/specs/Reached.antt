-- How far tokens lead, in words of the table.
use Rattle.std.specs.Prelude.{◌≡◌, ℕ, ◌<◌, List, take, length}
use Rattle.jsh_tree.specs.declared.token.Token.{Token}
use Rattle.jsh_grammar.specs.Productions.{Part}
use Rattle.jsh_grammar.specs.Fronts.{IsWhole, IsPrefix}
use Rattle.jsh_recognizer.specs.Recognizing.{kinds}
use Rattle.jsh_recognizer.specs.Stops.{IsStuck, IsDeeper}
use Rattle.jsh_recognizer.specs.Reach.{Reach, Reason, whole, unfinished, refused, too_deep}

-- so many tokens are a prefix, and this is why no more are taken
abbrev pub IsReach : Part → ℕ → List Token → Reach → Type 0
IsReach n limit ts reach = IsPrefix n limit (kinds (take reach.read ts)) × by reach.reason
  where
    by : Reason → Type 0
    by whole = (reach.read ≡ length ts) × IsWhole n limit (kinds ts)
    by unfinished = (reach.read ≡ length ts) × IsStuck n ts reach.read
    by refused = (reach.read < length ts) × IsStuck n ts reach.read
    by too_deep = (reach.read < length ts) × IsDeeper n limit ts reach.read
