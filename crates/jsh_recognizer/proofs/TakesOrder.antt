-- What may stand behind a frame that passes: frames that take no token which it would take itself.
use Rattle.std.proofs.Common.{ℕ, Bool, true, [], ◌∷◌}
use Rattle.jsh_tree.specs.declared.token.TokenKind.{TokenKind}
use Rattle.jsh_tree.specs.declared.token.TokenKind.TheVariants as token
use Rattle.jsh_recognizer.specs.declared.frame.Context.{Context}
use Rattle.jsh_recognizer.specs.declared.frame.Context.TheVariants as context
use Rattle.jsh_recognizer.specs.declared.frame.Frame.{Frame}
use Rattle.jsh_recognizer.specs.declared.frame.Frame.TheVariants as frame
use Rattle.jsh_recognizer.specs.Machine.{Frames}

-- what ends an expression
pub data Closes : Frames → Type 0 where
  closes_all : Closes []
  closes_statement : {depth : ℕ} {fs : Frames} → Closes ((depth, frame.Expect token.Semicolon) ∷ fs)
  closes_parenthesis : {depth : ℕ} {fs : Frames} → Closes ((depth, frame.Expect token.RightParen) ∷ fs)
  closes_index : {depth : ℕ} {fs : Frames} → Closes ((depth, frame.Expect token.RightBracket) ∷ fs)
  closes_choice : {depth : ℕ} {fs : Frames} → Closes ((depth, frame.Expect token.Colon) ∷ fs)
  closes_argument : {depth : ℕ} {fs : Frames} → Closes ((depth, frame.MoreArguments) ∷ fs)
  closes_value : {depth : ℕ} {fs : Frames} → Closes ((depth, frame.MoreValues) ∷ fs)

-- what stands behind an operand
pub data ClosesOperand : Frames → Type 0 where
  closes_expression : {fs : Frames} → Closes fs → ClosesOperand fs
  before_operators : {depth : ℕ} {behind_type : Bool} {fs : Frames} → Closes fs → ClosesOperand ((depth, frame.Operators behind_type) ∷ fs)

-- what stands behind an operand of this context
abbrev pub ClosesPath : Context → Frames → Type 0
ClosesPath context.Expression fs = Closes fs
ClosesPath context.Operand fs = ClosesOperand fs
ClosesPath context.Target fs = ClosesOperand fs
ClosesPath context.Effect fs = Closes fs

-- what stands behind a type
pub data BehindType : Frames → Type 0 where
  before_name : {depth : ℕ} {fs : Frames} → BehindType ((depth, frame.Expect token.Identifier) ∷ fs)
  before_comparisons : {depth : ℕ} {fs : Frames} → Closes fs → BehindType ((depth, frame.Operators true) ∷ fs)

-- what stands behind a statement
pub data BehindStatement : Frames → Type 0 where
  last_statement : BehindStatement []
  before_statements : {depth : ℕ} {fs : Frames} → BehindStatement ((depth, frame.Statements) ∷ fs)
  before_group : {depth : ℕ} {fs : Frames} → BehindStatement ((depth, frame.Group) ∷ fs)
  before_while : {depth : ℕ} {fs : Frames} → BehindStatement ((depth, frame.Expect token.While) ∷ fs)
  before_else : {depth : ℕ} {fs : Frames} → BehindStatement fs → BehindStatement ((depth, frame.Else) ∷ fs)

-- nothing stands behind
pub data AtEnd : Frames → Type 0 where
  at_end : AtEnd []

-- what stands behind the superclass
pub data BehindSuperclass : Frames → Type 0 where
  before_interfaces : {depth at : ℕ} {fs : Frames} → BehindSuperclass ((depth, frame.NamesBehind token.Implements) ∷ (at, frame.ClassBody) ∷ fs)

-- the words behind which names of types stand
pub data ListWord : TokenKind → Type 0 where
  word_implements : ListWord token.Implements
  word_extends : ListWord token.Extends
  word_throws : ListWord token.Throws

-- what stands behind the names of types
pub data BehindNames : Frames → Type 0 where
  before_block : {depth : ℕ} {fs : Frames} → BehindNames ((depth, frame.Block) ∷ fs)
  before_class_body : {depth : ℕ} {fs : Frames} → BehindNames ((depth, frame.ClassBody) ∷ fs)
  before_interface_body : {depth : ℕ} {fs : Frames} → BehindNames ((depth, frame.InterfaceBody) ∷ fs)
  before_method_body : {depth : ℕ} {fs : Frames} → BehindNames ((depth, frame.MethodBody) ∷ fs)
  before_constructor_body : {depth : ℕ} {fs : Frames} → BehindNames ((depth, frame.ConstructorBody) ∷ fs)
  before_semicolon : {depth : ℕ} {fs : Frames} → BehindNames ((depth, frame.Expect token.Semicolon) ∷ fs)

-- what may stand behind a frame
abbrev pub Fits : Frame → Frames → Type 0
Fits frame.Expression fs = Closes fs
Fits frame.Conditional fs = Closes fs
Fits frame.Initial fs = Closes fs
Fits frame.Initialized fs = Closes fs
Fits frame.Variable fs = Closes fs
Fits frame.Effect fs = Closes fs
Fits (frame.Operators behind_type) fs = Closes fs
Fits frame.Operand fs = ClosesOperand fs
Fits frame.Unsigned fs = ClosesOperand fs
Fits frame.Target fs = ClosesOperand fs
Fits (frame.Path c e) fs = ClosesPath c fs
Fits (frame.Member c) fs = ClosesPath c fs
Fits (frame.Opened c) fs = ClosesPath c fs
Fits (frame.OpenedName c) fs = ClosesPath c fs
Fits (frame.OpenedPair c) fs = ClosesPath c fs
Fits (frame.CastType primitive c) fs = ClosesPath c fs
Fits (frame.Enclosed c) fs = ClosesPath c fs
Fits (frame.New c) fs = ClosesPath c fs
Fits (frame.NewNamed c) fs = ClosesPath c fs
Fits (frame.NewPrimitive c) fs = ClosesPath c fs
Fits (frame.NewOpened c) fs = ClosesPath c fs
Fits (frame.NewFilled c) fs = ClosesPath c fs
Fits (frame.NewSized c) fs = ClosesPath c fs
Fits (frame.NewSizedOpened c) fs = ClosesPath c fs
Fits (frame.NewUnsized c) fs = ClosesPath c fs
Fits (frame.NewUnsizedOpened c) fs = ClosesPath c fs
Fits frame.Type fs = BehindType fs
Fits frame.Brackets fs = BehindType fs
Fits frame.Statement fs = BehindStatement fs
Fits frame.Else fs = BehindStatement fs
Fits frame.Catches fs = BehindStatement fs
Fits frame.MoreCatches fs = BehindStatement fs
Fits frame.Snippet fs = AtEnd fs
Fits frame.Superclass fs = BehindSuperclass fs
Fits (frame.NamesBehind word) fs = ListWord word × BehindNames fs
Fits frame.Names fs = BehindNames fs
Fits frame.MoreNames fs = BehindNames fs
Fits _ fs = Unit {0}

-- each frame stands in front of what it fits
abbrev pub Orderly : Frames → Type 0
Orderly [] = Unit {0}
Orderly (f ∷ fs) = Fits f.1 fs × Orderly fs
