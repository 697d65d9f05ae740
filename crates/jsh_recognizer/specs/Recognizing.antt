-- What the recognizer says of tokens.
use Rattle.std.specs.Prelude.{ℕ, zero, suc, ◌+◌, ◌≡◌, ◌≤◌, ◌<◌, true, false, List, [], ◌∷◌, ◌++◌, map, take, reverse, Option, Some, None}
use Rattle.jsh_tree.specs.declared.token.TokenKind.{TokenKind}
use Rattle.jsh_tree.specs.declared.token.Token.{Token}
use Rattle.jsh_recognizer.specs.declared.frame.Frame.{Frame}
use Rattle.jsh_recognizer.specs.declared.frame.Frame.TheVariants as frame
use Rattle.jsh_recognizer.specs.declared.answer.Answer.{Answer}
use Rattle.jsh_recognizer.specs.declared.answer.Answer.TheVariants as answer
use Rattle.jsh_recognizer.specs.declared.recognizer.Start.{Start}
use Rattle.jsh_recognizer.specs.declared.recognizer.Start.TheVariants as start
use Rattle.jsh_recognizer.specs.declared.recognizer.Advance.{Advance}
use Rattle.jsh_recognizer.specs.declared.recognizer.Advance.TheVariants as advance
use Rattle.jsh_recognizer.specs.declared.recognizer.Found.{Found}
use Rattle.jsh_recognizer.specs.declared.scanner.End.{End}
use Rattle.jsh_recognizer.specs.declared.scanner.End.TheVariants as end
use Rattle.jsh_recognizer.specs.Machine.{Move, takes, passes, refuses, move_of, Frames, Steps, may_all_stop}
use Rattle.jsh_recognizer.specs.Stacks.{frames_of}

-- no frame stands deeper than that
abbrev pub AreWithin : ℕ → Frames → Type 0
AreWithin limit [] = Unit {0}
AreWithin limit (f ∷ fs) = (f.0 ≤ limit) × AreWithin limit fs

-- how deep the frame at a place stands
abbrev pub depth_at : Frames → ℕ → ℕ
depth_at [] n = 0
depth_at (f ∷ fs) zero = f.0
depth_at (f ∷ fs) (suc n) = depth_at fs n

-- the same at each place
abbrev pub EachWithin : ℕ → Frames → Type 0
EachWithin limit fs = (n : ℕ) → depth_at fs n ≤ limit

-- what one frame does with a token, and the frames that come in its place
abbrev pub Meets : ℕ → Frame → TokenKind → Frames → Answer → Type 0
Meets depth f k fresh (answer.Took at) =
    ((rest : Frames) → Steps ((depth, f) ∷ rest) k at (fresh ++ rest)) × AreWithin (at + 1) fresh
Meets depth f k fresh answer.Passed = move_of f k ≡ passes
Meets depth f k fresh answer.Refused = (rest : Frames) (at : ℕ) (next : Frames) → Steps ((depth, f) ∷ rest) k at next → ⊥

-- where the frames end that don't pass, and what came of the next one
abbrev pub Finds : TokenKind → List (ℕ × Frame) → Option Found → Type 0
Finds k items None = (at : ℕ) (next : Frames) → Steps (reverse items) k at next → ⊥
Finds k items (Some found) =
    Steps (reverse items) k found.at (frames_of found.fresh ++ reverse (take found.left items)) × AreWithin (found.at + 1) (frames_of found.fresh)

-- the frame that a text begins with
abbrev pub first : Start → Frames
first start.Expression = (0, frame.Expression) ∷ []
first start.Statement = (0, frame.Statement) ∷ []
first start.Snippet = (0, frame.Snippet) ∷ []

-- what a recognizer would do with a token
abbrev pub Looks : ℕ → TokenKind → Frames → Advance → Type 0
Looks limit k fs advance.Taken = (at : ℕ) × (next : Frames) × Steps fs k at next × (at ≤ limit)
Looks limit k fs advance.TooDeep = (at : ℕ) × (next : Frames) × Steps fs k at next × (limit < at)
Looks limit k fs advance.Refused = (at : ℕ) (next : Frames) → Steps fs k at next → ⊥

-- what a recognizer does with a token: the frames before and after
abbrev pub Advances : ℕ → TokenKind → Frames → Frames → Advance → Type 0
Advances limit k old new advance.Taken = (at : ℕ) × Steps old k at new × (at ≤ limit)
Advances limit k old new advance.TooDeep = ((at : ℕ) × (next : Frames) × Steps old k at next × (limit < at)) × (new ≡ old)
Advances limit k old new advance.Refused = ((at : ℕ) (next : Frames) → Steps old k at next → ⊥) × (new ≡ old)

-- a kind of token that may come, or none where nothing may
abbrev pub Wants : Frames → Option TokenKind → Type 0
Wants fs None = (k : TokenKind) (at : ℕ) (next : Frames) → Steps fs k at next → ⊥
Wants fs (Some k) = (at : ℕ) × (next : Frames) × Steps fs k at next

-- the token is taken
abbrev pub IsTaken : Move → Type 0
IsTaken (takes own fs) = Unit {0}
IsTaken passes = ⊥
IsTaken refuses = ⊥

-- a frame takes a kind of token
abbrev pub WillTake : Frame → TokenKind → Type 0
WillTake (frame.Expect wanted) k = wanted ≡ k
WillTake f k = IsTaken (move_of f k)

-- a frame takes no token
abbrev pub AlwaysPasses : Frame → Type 0
AlwaysPasses f = (k : TokenKind) → move_of f k ≡ passes

-- the kinds of tokens
abbrev pub kinds : List Token → List TokenKind
kinds tokens = map (λ t. t.kind) tokens

-- why the reading of tokens ended, with these frames before these tokens
abbrev pub Ends : ℕ → Frames → List Token → End → Type 0
Ends limit last [] end.Whole = may_all_stop last ≡ true
Ends limit last [] (end.Open wanted) = (may_all_stop last ≡ false) × Wants last wanted
Ends limit last (t ∷ ts) end.TooDeep = (at : ℕ) × (next : Frames) × Steps last t.kind at next × (limit < at)
Ends limit last (t ∷ ts) (end.Refused wanted) = ((at : ℕ) (next : Frames) → Steps last t.kind at next → ⊥) × Wants last wanted
Ends limit last ts _ = ⊥
