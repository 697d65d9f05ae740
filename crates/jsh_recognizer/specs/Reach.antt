-- How far tokens lead from some frames, and why no further: what the machine does, as functions.
use denote.Enum.Bare.{sameb}
use Rattle.std.specs.Prelude.{ℕ, suc, ◌+◌, Bool, true, false, is_some, nat_lt, if◌then◌else◌, List, [], ◌∷◌, Option, Some, None}
use Rattle.std.specs.List.{list_any}
use Rattle.std.specs.Option.{option_and_then}
use Rattle.jsh_tree.specs.contracts.token.TokenKind.{the_type}
use Rattle.jsh_tree.specs.declared.token.TokenKind.{TokenKind}
use Rattle.jsh_tree.specs.declared.token.TokenKind.TheVariants as token
use Rattle.jsh_recognizer.specs.declared.frame.Frame.{Frame}
use Rattle.jsh_recognizer.specs.declared.frame.Frame.TheVariants as frame
use Rattle.jsh_recognizer.specs.Machine.{Move, takes, passes, refuses, move_of, Frames, onto, may_all_stop}

-- the same kind
unfoldable pub is_same : TokenKind → TokenKind → Bool
is_same a b = sameb the_type a b

-- the frame expects a token of this kind
abbrev pub expects : Frame → TokenKind → Bool
expects (frame.Expect wanted) k = is_same wanted k
expects _ k = false

-- what comes of a token by the move of the first frame, where this comes of it by those behind that frame
abbrev pub by_move : ℕ → Frames → Option (ℕ × Frames) → Move → Option (ℕ × Frames)
by_move depth rest behind (takes own fs) = Some (depth + own, onto depth fs rest)
by_move depth rest behind passes = behind
by_move depth rest behind refuses = None

-- One token: how deep it stands, and the frames behind it; None where no frame takes it.
abbrev pub after : Frames → TokenKind → Option (ℕ × Frames)
after [] k = None
after (f ∷ rest) k = if expects f.1 k then Some (f.0, rest) else by_move f.0 rest (after rest k) (move_of f.1 k)

-- the frames behind these tokens, however deep they stand; None where one of them isn't taken
abbrev pub behind : Frames → List TokenKind → Option Frames
behind fs [] = Some fs
behind fs (k ∷ ks) = option_and_then (λ taken. behind taken.1 ks) (after fs k)

-- why no more tokens are taken: all are, and nothing more need come, or something has to; or no frame takes the next one, or it stands too deep
pub data Reason : Type 0 where
  whole : Reason
  unfinished : Reason
  refused : Reason
  too_deep : Reason

-- how many tokens are taken, and why no more
pub record Reach : Type 0 where
  pub read : ℕ
  pub reason : Reason

-- none is
abbrev pub stops : Reason → Reach
stops reason = record { read = 0; reason = reason }

-- one more is
abbrev pub one_more : Reach → Reach
one_more reach = record { read = suc reach.read; reason = reach.reason }

-- what is taken behind a token, within a limit of depth, where the frames behind that take so many
abbrev pub reach_by : ℕ → (Frames → Reach) → Option (ℕ × Frames) → Reach
reach_by limit onward None = stops refused
reach_by limit onward (Some (depth, next)) = if nat_lt limit depth then stops too_deep else one_more (onward next)

-- how many of these tokens the frames take, none deeper than the limit
abbrev pub reach : ℕ → Frames → List TokenKind → Reach
reach limit fs [] = stops (if may_all_stop fs then whole else unfinished)
reach limit fs (k ∷ ks) = reach_by limit (λ next. reach limit next ks) (after fs k)

-- all kinds of tokens
unfoldable pub every_kind : List TokenKind
every_kind =
    token.Identifier ∷ token.IntLiteral ∷ token.LongLiteral ∷ token.CharLiteral ∷ token.StringLiteral ∷ token.Abstract ∷ token.Assert ∷ token.Boolean
    ∷ token.Break ∷ token.Byte ∷ token.Case ∷ token.Catch ∷ token.Char ∷ token.Class ∷ token.Const ∷ token.Continue ∷ token.Default ∷ token.Do
    ∷ token.Double ∷ token.Else ∷ token.Enum ∷ token.Extends ∷ token.Final ∷ token.Finally ∷ token.Float ∷ token.For ∷ token.Goto ∷ token.If
    ∷ token.Implements ∷ token.Import ∷ token.Instanceof ∷ token.Int ∷ token.Interface ∷ token.Long ∷ token.Native ∷ token.New ∷ token.Package
    ∷ token.Private ∷ token.Protected ∷ token.Public ∷ token.Return ∷ token.Short ∷ token.Static ∷ token.Strictfp ∷ token.Super ∷ token.Switch
    ∷ token.Synchronized ∷ token.This ∷ token.Throw ∷ token.Throws ∷ token.Transient ∷ token.Try ∷ token.Void ∷ token.Volatile ∷ token.While
    ∷ token.True ∷ token.False ∷ token.Null ∷ token.Var ∷ token.Underscore ∷ token.LeftParen ∷ token.RightParen ∷ token.LeftBrace ∷ token.RightBrace
    ∷ token.LeftBracket ∷ token.RightBracket ∷ token.Semicolon ∷ token.Comma ∷ token.Dot ∷ token.Assign ∷ token.GreaterThan ∷ token.LessThan
    ∷ token.Bang ∷ token.Tilde ∷ token.Question ∷ token.Colon ∷ token.EqualTo ∷ token.LessOrEqual ∷ token.GreaterOrEqual ∷ token.NotEqual
    ∷ token.AndAnd ∷ token.OrOr ∷ token.PlusPlus ∷ token.MinusMinus ∷ token.Plus ∷ token.Minus ∷ token.Star ∷ token.Slash ∷ token.Ampersand
    ∷ token.Bar ∷ token.Caret ∷ token.Percent ∷ token.ShiftLeft ∷ token.ShiftRight ∷ token.UnsignedShiftRight ∷ token.PlusAssign
    ∷ token.MinusAssign ∷ token.StarAssign ∷ token.SlashAssign ∷ token.AmpersandAssign ∷ token.BarAssign ∷ token.CaretAssign ∷ token.PercentAssign
    ∷ token.ShiftLeftAssign ∷ token.ShiftRightAssign ∷ token.UnsignedShiftRightAssign ∷ []

-- the frames take a token of some kind
unfoldable pub take_some : Frames → Bool
take_some fs = list_any (λ k. is_some (after fs k)) every_kind

-- these tokens are taken, and behind them some kind of token
abbrev pub goes_on : Frames → List TokenKind → Bool
goes_on fs ks = by (behind fs ks)
  where
    by : Option Frames → Bool
    by None = false
    by (Some last) = take_some last

-- all are taken, and nothing more need come
abbrev pub is_whole : Reach → Bool
is_whole reach = by reach.reason
  where
    by : Reason → Bool
    by whole = true
    by _ = false
