-- What a frame does with each kind of token, by a test of a list of them.
use Rattle.std.proofs.Common.{ℕ, zero, suc, ◌≡◌, Bool, true, false, ◌&&◌, List, [], ◌∷◌, refl, subst}
use Rattle.jsh_tree.specs.declared.token.TokenKind.{TokenKind}
use Rattle.jsh_tree.specs.declared.token.TokenKind.TheVariants as token
use Rattle.jsh_recognizer.specs.declared.frame.Frame.{Frame}
use Rattle.jsh_recognizer.specs.Machine.{Move, move_of}

-- each kind of a list passes a test of the move with it
abbrev pub all_at : (Move → Bool) → Frame → List TokenKind → Bool
all_at p f [] = true
all_at p f (k ∷ ks) = p (move_of f k) && all_at p f ks

-- the kinds of tokens
abbrev pub kinds : List TokenKind
kinds =
    token.Identifier ∷ token.IntLiteral ∷ token.LongLiteral ∷ token.CharLiteral ∷ token.StringLiteral ∷ token.Abstract ∷ token.Assert ∷
    token.Boolean ∷ token.Break ∷ token.Byte ∷ token.Case ∷ token.Catch ∷ token.Char ∷ token.Class ∷ token.Const ∷ token.Continue ∷ token.Default ∷
    token.Do ∷ token.Double ∷ token.Else ∷ token.Enum ∷ token.Extends ∷ token.Final ∷ token.Finally ∷ token.Float ∷ token.For ∷ token.Goto ∷
    token.If ∷ token.Implements ∷ token.Import ∷ token.Instanceof ∷ token.Int ∷ token.Interface ∷ token.Long ∷ token.Native ∷ token.New ∷
    token.Package ∷ token.Private ∷ token.Protected ∷ token.Public ∷ token.Return ∷ token.Short ∷ token.Static ∷ token.Strictfp ∷ token.Super ∷
    token.Switch ∷ token.Synchronized ∷ token.This ∷ token.Throw ∷ token.Throws ∷ token.Transient ∷ token.Try ∷ token.Void ∷ token.Volatile ∷
    token.While ∷ token.True ∷ token.False ∷ token.Null ∷ token.Var ∷ token.Underscore ∷ token.LeftParen ∷ token.RightParen ∷ token.LeftBrace ∷
    token.RightBrace ∷ token.LeftBracket ∷ token.RightBracket ∷ token.Semicolon ∷ token.Comma ∷ token.Dot ∷ token.Assign ∷ token.GreaterThan ∷
    token.LessThan ∷ token.Bang ∷ token.Tilde ∷ token.Question ∷ token.Colon ∷ token.EqualTo ∷ token.LessOrEqual ∷ token.GreaterOrEqual ∷
    token.NotEqual ∷ token.AndAnd ∷ token.OrOr ∷ token.PlusPlus ∷ token.MinusMinus ∷ token.Plus ∷ token.Minus ∷ token.Star ∷ token.Slash ∷
    token.Ampersand ∷ token.Bar ∷ token.Caret ∷ token.Percent ∷ token.ShiftLeft ∷ token.ShiftRight ∷ token.UnsignedShiftRight ∷ token.PlusAssign ∷
    token.MinusAssign ∷ token.StarAssign ∷ token.SlashAssign ∷ token.AmpersandAssign ∷ token.BarAssign ∷ token.CaretAssign ∷ token.PercentAssign ∷
    token.ShiftLeftAssign ∷ token.ShiftRightAssign ∷ token.UnsignedShiftRightAssign ∷ []

-- the place of a kind among them
abbrev place : TokenKind → ℕ
place token.Identifier = 0
place token.IntLiteral = 1
place token.LongLiteral = 2
place token.CharLiteral = 3
place token.StringLiteral = 4
place token.Abstract = 5
place token.Assert = 6
place token.Boolean = 7
place token.Break = 8
place token.Byte = 9
place token.Case = 10
place token.Catch = 11
place token.Char = 12
place token.Class = 13
place token.Const = 14
place token.Continue = 15
place token.Default = 16
place token.Do = 17
place token.Double = 18
place token.Else = 19
place token.Enum = 20
place token.Extends = 21
place token.Final = 22
place token.Finally = 23
place token.Float = 24
place token.For = 25
place token.Goto = 26
place token.If = 27
place token.Implements = 28
place token.Import = 29
place token.Instanceof = 30
place token.Int = 31
place token.Interface = 32
place token.Long = 33
place token.Native = 34
place token.New = 35
place token.Package = 36
place token.Private = 37
place token.Protected = 38
place token.Public = 39
place token.Return = 40
place token.Short = 41
place token.Static = 42
place token.Strictfp = 43
place token.Super = 44
place token.Switch = 45
place token.Synchronized = 46
place token.This = 47
place token.Throw = 48
place token.Throws = 49
place token.Transient = 50
place token.Try = 51
place token.Void = 52
place token.Volatile = 53
place token.While = 54
place token.True = 55
place token.False = 56
place token.Null = 57
place token.Var = 58
place token.Underscore = 59
place token.LeftParen = 60
place token.RightParen = 61
place token.LeftBrace = 62
place token.RightBrace = 63
place token.LeftBracket = 64
place token.RightBracket = 65
place token.Semicolon = 66
place token.Comma = 67
place token.Dot = 68
place token.Assign = 69
place token.GreaterThan = 70
place token.LessThan = 71
place token.Bang = 72
place token.Tilde = 73
place token.Question = 74
place token.Colon = 75
place token.EqualTo = 76
place token.LessOrEqual = 77
place token.GreaterOrEqual = 78
place token.NotEqual = 79
place token.AndAnd = 80
place token.OrOr = 81
place token.PlusPlus = 82
place token.MinusMinus = 83
place token.Plus = 84
place token.Minus = 85
place token.Star = 86
place token.Slash = 87
place token.Ampersand = 88
place token.Bar = 89
place token.Caret = 90
place token.Percent = 91
place token.ShiftLeft = 92
place token.ShiftRight = 93
place token.UnsignedShiftRight = 94
place token.PlusAssign = 95
place token.MinusAssign = 96
place token.StarAssign = 97
place token.SlashAssign = 98
place token.AmpersandAssign = 99
place token.BarAssign = 100
place token.CaretAssign = 101
place token.PercentAssign = 102
place token.ShiftLeftAssign = 103
place token.ShiftRightAssign = 104
place token.UnsignedShiftRightAssign = 105

-- what stands at a place of a list
abbrev kind_at : List TokenKind → ℕ → TokenKind
kind_at [] n = token.Identifier
kind_at (k ∷ ks) zero = k
kind_at (k ∷ ks) (suc n) = kind_at ks n

placed : (k : TokenKind) → kind_at kinds (place k) ≡ k
placed token.Identifier = refl
placed _ = refl

pub and-left : (a b : Bool) → (a && b) ≡ true → a ≡ true
and-left true b e = refl
and-left false b e = cc

pub and-right : (a b : Bool) → (a && b) ≡ true → b ≡ true
and-right true b e = e
and-right false b e = cc

at-each : (p : Move → Bool) (f : Frame) (ks : List TokenKind) (n : ℕ) → p (move_of f token.Identifier) ≡ true → all_at p f ks ≡ true →
    p (move_of f (kind_at ks n)) ≡ true
at-each p f [] n here all = here
at-each p f (k ∷ ks) zero here all = and-left (p (move_of f k)) _ all
at-each p f (k ∷ ks) (suc n) here all = at-each p f ks n here (and-right (p (move_of f k)) _ all)

-- a test that the kinds of the list pass, any kind passes
pub at-any : (p : Move → Bool) (f : Frame) (k : TokenKind) → all_at p f kinds ≡ true → p (move_of f k) ≡ true
at-any p f k all =
    let P : TokenKind → Type 0 = λ j. p (move_of f j) ≡ true in
    subst P (placed k) (at-each p f kinds (place k) (and-left (p (move_of f token.Identifier)) _ all) all)
