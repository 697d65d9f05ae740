-- How tokens aren't a part.
use Rattle.std.specs.Prelude.{ℕ, ◌≤◌, Bool, true, false, List, take, length}
use Rattle.jsh_tree.specs.declared.token.Token.{Token}
use Rattle.jsh_grammar.specs.Productions.{Part}
use Rattle.jsh_grammar.specs.Fronts.{IsPrefix}
use Rattle.jsh_recognizer.specs.Recognizing.{kinds}
use Rattle.jsh_recognizer.specs.Stops.{IsStuck, IsDeeper}

-- How tokens aren't a part, though so many of them are a prefix of one: they stop being a prefix there, or the next one stands too deep.
pub data Refused (n : Part) (ts : List Token) : Type 0 where
  stuck : (read : ℕ) → read ≤ length ts → IsPrefix n 256 (kinds (take read ts)) → IsStuck n ts read → Refused n ts
  too_deep : (read : ℕ) → IsPrefix n 256 (kinds (take read ts)) → IsDeeper n 256 ts read → Refused n ts

-- how many tokens stand before the place
abbrev pub place : {n : Part} {ts : List Token} → Refused n ts → ℕ
place (stuck read le is stops) = read
place (too_deep read is deeper) = read

-- the next token stands too deep
abbrev pub stands_deep : {n : Part} {ts : List Token} → Refused n ts → Bool
stands_deep (stuck read le is stops) = false
stands_deep (too_deep read is deeper) = true
