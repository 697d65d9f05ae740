use Rattle.std.proofs.Common.{◌≡◌, ◌≤◌, ◌++◌, ℕ, List, [], ◌∷◌, length, refl, arith}
use Rattle.std.specs.Prelude.{codes}
use Rattle.jsh_render.specs.Names.{names_text}
use Rattle.jsh_render.specs.Outcomes.{reason}
use Rattle.jsh_render.proofs.outcomes.push_reason.Goals as goal

some_missing : (missing : List (List ℕ)) → 1 ≤ length missing → reason missing ≡ codes "which cannot be invoked until " ++ names_text missing ++ codes " declared"
some_missing [] h = absurd (omega arith)
some_missing (name ∷ names) h = refl

pub returns-in_default : goal.returns-in_default
returns-in_default c = rw (some_missing c.args.missing.now (omega arith)) c.push_waits.ensures
