-- That no frame puts another more than one part deeper than the token that it takes.
use Rattle.std.proofs.Common.{ℕ, zero, suc, ◌+◌, ◌≡◌, ◌≤◌, Bool, true, false, ◌&&◌, List, [], ◌∷◌, refl, arith}
use Rattle.jsh_tree.specs.declared.token.TokenKind.{TokenKind}
use Rattle.jsh_tree.specs.declared.token.TokenKind.TheVariants as token
use Rattle.jsh_recognizer.specs.declared.frame.Context.TheVariants as context
use Rattle.jsh_recognizer.specs.declared.frame.Ending.TheVariants as ending
use Rattle.jsh_recognizer.specs.declared.frame.Frame.{Frame}
use Rattle.jsh_recognizer.specs.declared.frame.Frame.TheVariants as frame
use Rattle.jsh_recognizer.specs.Machine.{Move, takes, passes, refuses, move_of}
use Rattle.jsh_recognizer.proofs.EachKind.{all_at, kinds, at-any}

-- one number is no more than another, and one part more
abbrev pub is_near : ℕ → ℕ → Bool
is_near zero own = true
is_near (suc zero) own = true
is_near (suc (suc zero)) (suc own) = true
is_near (suc (suc (suc zero))) (suc (suc own)) = true
is_near _ _ = false

-- no frame stands more than one part deeper than the token
abbrev pub are_near : ℕ → List (ℕ × Frame) → Bool
are_near own [] = true
are_near own (f ∷ fs) = is_near f.0 own && are_near own fs

-- a move puts no frame more than one part deeper than its token
abbrev pub near : Move → Bool
near (takes own fs) = are_near own fs
near passes = true
near refuses = true

near-everywhere : (f : Frame) → all_at near f kinds ≡ true
near-everywhere (frame.Member context.Expression) = refl
near-everywhere (frame.Opened context.Expression) = refl
near-everywhere (frame.OpenedName context.Expression) = refl
near-everywhere (frame.OpenedPair context.Expression) = refl
near-everywhere (frame.Enclosed context.Expression) = refl
near-everywhere (frame.New context.Expression) = refl
near-everywhere (frame.NewNamed context.Expression) = refl
near-everywhere (frame.NewPrimitive context.Expression) = refl
near-everywhere (frame.NewOpened context.Expression) = refl
near-everywhere (frame.NewFilled context.Expression) = refl
near-everywhere (frame.NewSized context.Expression) = refl
near-everywhere (frame.NewSizedOpened context.Expression) = refl
near-everywhere (frame.NewUnsized context.Expression) = refl
near-everywhere (frame.NewUnsizedOpened context.Expression) = refl
near-everywhere (frame.Path context.Expression ending.Name) = refl
near-everywhere (frame.Path context.Operand ending.Name) = refl
near-everywhere (frame.Path context.Target ending.Name) = refl
near-everywhere (frame.Path context.Effect ending.Name) = refl
near-everywhere (frame.CastType true context.Expression) = refl
near-everywhere (frame.CastType false context.Expression) = refl
near-everywhere (frame.Operators true) = refl
near-everywhere (frame.NamesBehind token.Extends) = refl
near-everywhere _ = refl

pub moves-near : (f : Frame) (k : TokenKind) → near (move_of f k) ≡ true
moves-near f k = at-any near f k (near-everywhere f)

-- what that says of numbers
pub near-number : (n own : ℕ) → is_near n own ≡ true → n ≤ own + 1
near-number zero own e = omega arith
near-number (suc zero) own e = omega arith
near-number (suc (suc zero)) (suc own) e = omega arith
near-number (suc (suc (suc zero))) (suc (suc own)) e = omega arith
near-number (suc (suc zero)) zero e = cc
near-number (suc (suc (suc zero))) zero e = cc
near-number (suc (suc (suc zero))) (suc zero) e = cc
near-number (suc (suc (suc (suc n)))) own e = cc
