-- The derived test says whether two kinds are the same.
use denote.Enum.Bare.{sameb, same_true}
use Rattle.std.proofs.Common.{◌≡◌, Bool, true, false, MatchBool, refl, sym, subst, rules}
use Rattle.jsh_tree.specs.contracts.token.TokenKind.{the_type}
use Rattle.jsh_tree.specs.declared.token.TokenKind.{TokenKind}
use Rattle.jsh_tree.specs.declared.token.TokenKind.TheVariants as token
use Rattle.jsh_recognizer.proofs.recognizer.is_same.Goals as goal

self : (k : TokenKind) → sameb the_type k k ≡ true
self token.Identifier = refl
self _ = refl

same-cases : (r : Bool) (a b : TokenKind) → r ≡ sameb the_type a b → MatchBool r (a ≡ b) (a ≡ b → ⊥)
same-cases true a b e = same_true the_type (search rules) _ _ (sym e)
same-cases false a b e = λ s.
    let P : TokenKind → Type 0 = λ j. sameb the_type a j ≡ true in
    let h : sameb the_type a b ≡ true = subst P s (self a) in
    cc

pub returns : goal.returns
returns c = same-cases c.eq.result c.args.wanted c.args.kind c.eq.ensures
