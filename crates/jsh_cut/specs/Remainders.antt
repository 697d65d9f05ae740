-- What the code knows of what is left of a text, and how that is cut.
use Rattle.std.specs.Prelude.{◌≡◌, ◌≢◌, ℕ, ◌<◌, ◌≤◌, ◌^◌, List, length, drop}
use Rattle.std.specs.Str.{IsUtf8, IsCharBoundary}
use Rattle.jsh_complete.specs.declared.completion.Completeness.TheVariants as completeness
use Rattle.jsh_cut.specs.declared.scan.Scan.{Scan}
use Rattle.jsh_cut.specs.declared.remainder.Found.{Found}
use Rattle.jsh_cut.specs.declared.remainder.Found.TheVariants as found
use Rattle.jsh_cut.specs.declared.remainder.Split.{Split}
use Rattle.jsh_cut.specs.declared.remainder.Split.TheVariants as split
use Rattle.jsh_cut.specs.Commands.{completion, first_source}
use Rattle.jsh_cut.specs.Scans.{IsScanOf}
use Rattle.jsh_cut.specs.Rests.{IsRest}

-- so many bytes of a text are cut off, and so many tokens
pub record IsRemainder (text : List ℕ) (scan : Scan) (base read : ℕ) : Type 0 where
  pub short : length text < 2 ^ 32
  pub scanned : IsScanOf text scan
  pub between : IsCharBoundary text base
  pub few : read ≤ length scan.tokens
  pub rest : IsRest base (drop base text) (drop read scan.tokens) scan.fault

-- the text begins with a whole snippet, which has this source, and this is left
pub record IsFirst (text source left : List ℕ) : Type 0 where
  pub spelled : IsUtf8 text
  pub kind : (completion text).kind ≡ completeness.Complete
  pub first : source ≡ first_source text
  pub behind : left ≡ drop (completion text).end text

-- what is found behind so many bytes of a text
abbrev pub Finds : List ℕ → Scan → ℕ → Found → Type 0
Finds text scan base (found.First source end read) = IsFirst (drop base text) source (drop end text) × IsRemainder text scan end read
Finds text scan base (found.Other kind) = (kind ≡ (completion (drop base text)).kind) × (kind ≢ completeness.Complete)

-- how a text is split
abbrev pub Splits : List ℕ → Split → Type 0
Splits text (split.First source left) = IsFirst text source left
Splits text (split.Other kind left) = (kind ≡ (completion text).kind) × (kind ≢ completeness.Complete) × (left ≡ text)
