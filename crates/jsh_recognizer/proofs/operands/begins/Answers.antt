-- Where no token of its own announces the operand, a literal, a step or a prefix does.
use Rattle.std.proofs.Common.{ℕ, ◌≡◌, refl}
use Rattle.jsh_tree.specs.declared.token.TokenKind.{TokenKind}
use Rattle.jsh_tree.specs.declared.token.TokenKind.TheVariants as token
use Rattle.jsh_recognizer.specs.declared.frame.Context.{Context}
use Rattle.jsh_recognizer.specs.declared.frame.Context.TheVariants as context
use Rattle.jsh_recognizer.specs.declared.answer.Answer.{Answer}
use Rattle.jsh_recognizer.specs.Machine as machine
use Rattle.jsh_recognizer.specs.Machine.{Frames}
use Rattle.jsh_recognizer.specs.Stacks.{Does, begins_plainly}
use Rattle.jsh_recognizer.proofs.operands.begins.Goals as goal

plainly : (depth : ℕ) (c : Context) (k : TokenKind) (old new : Frames) (a : Answer) → (k ≡ token.Identifier → ⊥) → (k ≡ token.This → ⊥) →
    (k ≡ token.LeftParen → ⊥) → (k ≡ token.Super → ⊥) → (k ≡ token.New → ⊥) → Does depth (begins_plainly c k) old new a →
    Does depth (machine.begins c k) old new a
plainly depth c token.Identifier old new a ni nt nl ns nn does = absurd (ni refl)
plainly depth c token.This old new a ni nt nl ns nn does = absurd (nt refl)
plainly depth c token.LeftParen old new a ni nt nl ns nn does = absurd (nl refl)
plainly depth c token.Super old new a ni nt nl ns nn does = absurd (ns refl)
plainly depth c token.New old new a ni nt nl ns nn does = absurd (nn refl)
plainly depth context.Target k old new a ni nt nl ns nn does = does
plainly depth context.Effect k old new a ni nt nl ns nn does = does
plainly depth context.Operand k old new a ni nt nl ns nn does = does
plainly depth context.Expression k old new a ni nt nl ns nn does = does

pub returns-in_default : goal.returns-in_default
returns-in_default c =
    plainly _ _ _ _ _ _ c.in_default.not-Identifier c.in_default.not-This c.in_default.not-LeftParen c.in_default.not-Super c.in_default.not-New
    c.begins_plainly.ensures
