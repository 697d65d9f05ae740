-- The moves of operands are right, as those of frames that begin so or go on so are.
use Rattle.std.proofs.Common.{◌≡◌, ℕ, ◌+◌}
use Rattle.jsh_tree.specs.declared.token.TokenKind.{TokenKind}
use Rattle.jsh_recognizer.specs.declared.frame.Context.{Context}
use Rattle.jsh_recognizer.specs.declared.frame.Context.TheVariants as context
use Rattle.jsh_recognizer.specs.declared.frame.Ending.{Ending}
use Rattle.jsh_recognizer.specs.declared.frame.Frame.TheVariants as frame
use Rattle.jsh_recognizer.specs.Machine.{begins, behind_path}
use Rattle.jsh_recognizer.specs.Meanings as meant
use Rattle.jsh_recognizer.proofs.MeantStep.{sound_as}
use Rattle.jsh_recognizer.proofs.MeantPath.{path_sound}
use Rattle.jsh_recognizer.proofs.MeantBegins.{as_frame, effect_sound, expression_sound}
use Rattle.jsh_recognizer.proofs.MeantMoves.{as_own, TakesRight}

-- a statement's expression
pub effect_takes : (limit at room : ℕ) → at + room ≡ limit → (k : TokenKind) → TakesRight limit at room frame.Effect k (begins context.Effect k)
effect_takes limit at room fits k n new e le = sound_as (λ closed own is. as_own (as_frame meant.an_effect closed own is)) (effect_sound room fits k n new e le)

-- an expression
pub expression_takes : (limit at room : ℕ) → at + room ≡ limit → (k : TokenKind) → TakesRight limit at room frame.Expression k (begins context.Expression k)
expression_takes limit at room fits k n new e le =
    sound_as (λ closed own is. as_own (as_frame meant.an_expression closed own is)) (expression_sound room fits k n new e le)

-- behind an operand
pub path_takes : (limit at room : ℕ) → at + room ≡ limit → (c : Context) (e : Ending) (k : TokenKind) →
    TakesRight limit at room (frame.Path c e) k (behind_path c e k)
path_takes limit at room fits c e k n new t le = sound_as (λ closed own p. as_own (meant.path p)) (path_sound room fits c e k n new t le)
