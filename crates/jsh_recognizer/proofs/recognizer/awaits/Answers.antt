-- Frames that expect tokens are the same exactly where the tokens are.
use Rattle.std.proofs.Common.{◌≡◌, Bool, true, false, MatchBool, ap, ◌∙◌}
use Rattle.jsh_tree.specs.declared.token.TokenKind.{TokenKind}
use Rattle.jsh_recognizer.specs.declared.frame.Frame.{Frame}
use Rattle.jsh_recognizer.specs.declared.frame.Frame.TheVariants as frame
use Rattle.jsh_recognizer.proofs.recognizer.awaits.Goals as goal

expect-same : (r : Bool) (f : Frame) (w k : TokenKind) → f ≡ frame.Expect w → MatchBool r (w ≡ k) (w ≡ k → ⊥) →
    MatchBool r (f ≡ frame.Expect k) (f ≡ frame.Expect k → ⊥)
expect-same true f w k is h = is ∙ ap (λ x. frame.Expect x) h
expect-same false f w k is h = λ e. h (cc)

pub returns-in-Expect : goal.returns-in-Expect
returns-in-Expect c = expect-same c.is_same.result c.args.frame c.in-Expect.wanted c.args.kind c.in-Expect.is c.is_same.ensures
