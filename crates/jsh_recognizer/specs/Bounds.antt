-- How many frames can come to stand one behind another.
use Rattle.std.specs.Prelude.{ℕ, zero, suc, ◌+◌, ◌*◌, ◌≤◌, [], ◌∷◌, length}
use Rattle.jsh_recognizer.specs.declared.frame.Context.{Context}
use Rattle.jsh_recognizer.specs.declared.frame.Context.TheVariants as context
use Rattle.jsh_recognizer.specs.declared.frame.Frame.{Frame}
use Rattle.jsh_recognizer.specs.declared.frame.Frame.TheVariants as frame
use Rattle.jsh_recognizer.specs.Machine.{Frames}
use Rattle.jsh_recognizer.specs.Recognizing.{depth_at}

-- how many frames can stand one behind another where no part contains them
abbrev pub least : ℕ
least = 6

-- how many more for each part that contains them
abbrev pub most : ℕ
most = 3

-- how many places a frame of an operand needs, as below
abbrev pub need_in : Context → ℕ
need_in context.Expression = 5
need_in _ = 4

-- How many places a frame needs, for itself and for all that can come of it, where what comes of it deeper has those besides that its depth adds.
abbrev pub need : Frame → ℕ
need (frame.Path c e) = need_in c
need (frame.CastType primitive c) = need_in c
need (frame.Member c) = need_in c
need (frame.Opened c) = need_in c
need (frame.OpenedName c) = need_in c
need (frame.OpenedPair c) = need_in c
need (frame.Enclosed c) = need_in c
need (frame.New c) = need_in c
need (frame.NewNamed c) = need_in c
need (frame.NewPrimitive c) = need_in c
need (frame.NewOpened c) = need_in c
need (frame.NewFilled c) = need_in c
need (frame.NewSized c) = need_in c
need (frame.NewSizedOpened c) = need_in c
need (frame.NewUnsized c) = need_in c
need (frame.NewUnsizedOpened c) = need_in c
need (frame.Expect wanted) = 1
need frame.CaseValue = 1
need frame.NegativeValue = 1
need frame.CatchType = 1
need frame.DottedName = 1
need frame.MoreDotted = 1
need frame.Superclass = 1
need (frame.NamesBehind word) = 1
need frame.Names = 1
need frame.MoreNames = 1
need frame.Type = 2
need frame.Brackets = 2
need frame.OpenArguments = 3
need frame.Else = 3
need frame.Operand = 4
need frame.Unsigned = 4
need frame.Target = 4
need frame.Parameters = 4
need frame.ParametersInside = 4
need frame.Parameter = 4
need frame.MoreParameters = 4
need frame.MethodBody = 4
need frame.Expression = 5
need frame.Conditional = 5
need frame.Effect = 5
need (frame.Operators behind_type) = 5
need frame.Initial = 5
need frame.Variable = 5
need frame.Initialized = 5
need frame.ForUpdate = 5
need frame.Arguments = 6
need frame.MoreArguments = 6
need frame.Values = 6
need frame.MoreValues = 6
need frame.Statement = 6
need frame.Condition = 6
need frame.Named = 6
need frame.NamedPair = 6
need frame.Returned = 6
need frame.Catches = 6
need frame.MoreCatches = 6
need frame.Snippet = 6
need frame.Import = 6
need frame.Declaration = 6
need frame.MethodOrVariable = 6
need frame.NamedSnippet = 6
need frame.NamedSnippetPair = 6
need frame.FieldOrMethod = 6
need _ = 7

-- The frames behind each frame, and those that can come of it at its own depth, are at most so many for its depth.
abbrev pub AreBounded : Frames → Type 0
AreBounded [] = Unit {0}
AreBounded (f ∷ fs) = (length fs + need f.1 ≤ least + most * f.0) × AreBounded fs

-- how many frames the one at a place and those behind it can come to at its depth
abbrev pub load_at : Frames → ℕ → ℕ
load_at [] n = 0
load_at (f ∷ fs) zero = length fs + need f.1
load_at (f ∷ fs) (suc n) = load_at fs n

-- the same at each place
abbrev pub EachBounded : Frames → Type 0
EachBounded fs = (n : ℕ) → load_at fs n ≤ least + most * depth_at fs n
