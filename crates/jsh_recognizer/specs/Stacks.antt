-- What the stack of the recognizer stands for, and what a move does with it.
use Rattle.std.specs.Prelude.{ℕ, ◌≡◌, ◌≤◌, ◌+◌, ◌&&◌, Bool, true, if◌then◌else◌, false, [], ◌∷◌, length, reverse}
use Rattle.arrayvec.specs.ArrayVec.{ArrayVec}
use Rattle.jsh_tree.specs.declared.token.TokenKind.{TokenKind}
use Rattle.jsh_grammar.specs.Classes.{is_literal, is_prefix, is_step, is_assignment}
use Rattle.jsh_recognizer.specs.Machine.{Move, takes, passes, refuses, Frames, onto, goes, is_target, rest_of, may_cast, behind_operand}
use Rattle.jsh_recognizer.specs.declared.frame.Context.{Context}
use Rattle.jsh_recognizer.specs.declared.frame.Context.TheVariants as context
use Rattle.jsh_recognizer.specs.declared.frame.Ending.{Ending}
use Rattle.jsh_recognizer.specs.declared.frame.Ending.TheVariants as ending
use Rattle.jsh_recognizer.specs.declared.frame.Frame.TheVariants as frame
use Rattle.jsh_recognizer.specs.declared.frame.Frame.{Frame}
use Rattle.jsh_recognizer.specs.declared.answer.Answer.{Answer}
use Rattle.jsh_recognizer.specs.declared.answer.Answer.TheVariants as answer

-- the frames, the next one first
abbrev pub frames_of : ArrayVec (ℕ × Frame) → Frames
frames_of stack = reverse stack.items

-- so many more of the frames that one move makes fit
abbrev pub HasRoom : ℕ → ArrayVec (ℕ × Frame) → Type 0
HasRoom n fresh = length fresh.items + n ≤ 8

-- what a frame does with a token by a move: the depth of the token, and the frames before and after
abbrev pub Does : ℕ → Move → Frames → Frames → Answer → Type 0
Does depth (takes own fs) old new (answer.Took at) = (at ≡ depth + own) × (new ≡ onto depth fs old)
Does depth passes old new answer.Passed = new ≡ old
Does depth refuses old new answer.Refused = Unit {0}
Does depth _ old new _ = ⊥

-- the answer of a frame that others stand in front of, which don't pass
abbrev pub closed : Answer → Answer
closed (answer.Took at) = answer.Took at
closed answer.Passed = answer.Refused
closed answer.Refused = answer.Refused

-- behind an operand that may be all of an expression
abbrev pub behind_whole : Ending → TokenKind → Move
behind_whole e k =
    if is_step k && is_target e then takes 0 (rest_of context.Expression)
    else (if is_assignment k && is_target e then takes 0 ((1, frame.Expression) ∷ []) else behind_operand false k)

-- a step may stand there
abbrev pub may_step : Context → Bool
may_step context.Target = false
may_step _ = true

-- how an operand begins that no token of its own announces
abbrev pub begins_plainly : Context → TokenKind → Move
begins_plainly c k =
    if is_literal k then goes (frame.Path c ending.Other ∷ [])
    else (if is_step k && may_step c then takes 0 ((1, frame.Target) ∷ rest_of c)
    else (if is_prefix k && may_cast c then takes 0 ((1, frame.Operand) ∷ rest_of c) else refuses))
