-- A recognizer of the table, which takes one token after another. What may still come is a list of frames, the next one first, each with its
-- depth: how many parts contain it.
use Rattle.std.specs.Prelude.{ℕ, ◌+◌, Bool, true, false, not, ◌≡◌, ◌≤◌, ◌&&◌, ◌||◌, if◌then◌else◌, List, [], ◌∷◌, ◌++◌, map}
use Rattle.jsh_tree.specs.declared.token.TokenKind.{TokenKind}
use Rattle.jsh_tree.specs.declared.token.TokenKind.TheVariants as token
use Rattle.jsh_recognizer.specs.declared.frame.Context.{Context}
use Rattle.jsh_recognizer.specs.declared.frame.Context.TheVariants as context
use Rattle.jsh_recognizer.specs.declared.frame.Ending.{Ending}
use Rattle.jsh_recognizer.specs.declared.frame.Ending.TheVariants as ending
use Rattle.jsh_recognizer.specs.declared.frame.Frame.{Frame}
use Rattle.jsh_recognizer.specs.declared.frame.Frame.TheVariants as frame
use Rattle.jsh_grammar.specs.Classes.{is_literal, is_primitive, is_assignment, is_prefix, is_step, is_case_value, is_modifier, is_member_modifier, is_interface_modifier}

-- What a frame does with a token. It takes it, so many parts deeper than it stands itself, and frames stand in its place, each so many parts deeper
-- than it; or nothing more comes of it, and the next frame has the token; or no such token can come.
pub data Move : Type 0 where
  takes : ℕ → List (ℕ × Frame) → Move
  passes : Move
  refuses : Move

-- what another frame does that stands so many parts deeper, and these frames behind it, which don't pass
abbrev pub inside : ℕ → List (ℕ × Frame) → Move → Move
inside n more (takes own fs) = takes (n + own) (map (λ f. (n + f.0, f.1)) fs ++ more)
inside n more passes = refuses
inside n more refuses = refuses

-- takes the token where it stands
abbrev pub goes : List Frame → Move
goes fs = takes 0 (map (λ f. (0, f)) fs)

-- the kinds of operators between two operands
abbrev pub is_loose_operator : TokenKind → Bool
is_loose_operator token.OrOr = true
is_loose_operator token.AndAnd = true
is_loose_operator token.Bar = true
is_loose_operator token.Caret = true
is_loose_operator token.Ampersand = true
is_loose_operator token.EqualTo = true
is_loose_operator token.NotEqual = true
is_loose_operator token.LessThan = true
is_loose_operator token.GreaterThan = true
is_loose_operator token.LessOrEqual = true
is_loose_operator token.GreaterOrEqual = true
is_loose_operator _ = false

-- those that bind tighter than `instanceof`
abbrev pub is_tight_operator : TokenKind → Bool
is_tight_operator token.ShiftLeft = true
is_tight_operator token.ShiftRight = true
is_tight_operator token.UnsignedShiftRight = true
is_tight_operator token.Plus = true
is_tight_operator token.Minus = true
is_tight_operator token.Star = true
is_tight_operator token.Slash = true
is_tight_operator token.Percent = true
is_tight_operator _ = false

-- a sign, or `++` or `--`
abbrev pub is_sign : TokenKind → Bool
is_sign token.Plus = true
is_sign token.Minus = true
is_sign k = is_step k

-- what an operand of a cast to a named type may begin with
abbrev pub begins_unsigned : TokenKind → Bool
begins_unsigned token.Identifier = true
begins_unsigned token.LeftParen = true
begins_unsigned token.This = true
begins_unsigned token.Super = true
begins_unsigned token.New = true
begins_unsigned token.Bang = true
begins_unsigned token.Tilde = true
begins_unsigned k = is_literal k

-- behind an operand among operators
abbrev pub behind_operand : Bool → TokenKind → Move
behind_operand behind_type token.Instanceof = goes (frame.Type ∷ frame.Operators true ∷ [])
behind_operand behind_type token.Question = takes 0 ((1, frame.Expression) ∷ (0, frame.Expect token.Colon) ∷ (1, frame.Conditional) ∷ [])
behind_operand behind_type k =
    if is_loose_operator k || (not behind_type && is_tight_operator k) then goes (frame.Operand ∷ frame.Operators false ∷ []) else passes

-- what stands behind an operand that isn't assigned to
abbrev pub rest_of : Context → List (ℕ × Frame)
rest_of context.Expression = (0, frame.Operators false) ∷ []
rest_of _ = []

-- a name, a field or an element
abbrev pub is_target : Ending → Bool
is_target ending.Name = true
is_target ending.Place = true
is_target _ = false

-- an operand that so ends may be all there is
abbrev pub may_end : Context → Ending → Bool
may_end context.Expression e = true
may_end context.Operand e = true
may_end context.Target e = is_target e
may_end context.Effect ending.Call = true
may_end context.Effect _ = false

-- behind an operand
abbrev pub behind_path : Context → Ending → TokenKind → Move
behind_path c e token.Dot = goes (frame.Member c ∷ [])
behind_path c e token.LeftBracket = takes 1 ((1, frame.Expression) ∷ (1, frame.Expect token.RightBracket) ∷ (0, frame.Path c ending.Place) ∷ [])
behind_path c ending.Name token.LeftParen = takes 1 ((1, frame.Arguments) ∷ (0, frame.Path c ending.Call) ∷ [])
behind_path context.Expression e k =
    if is_step k && is_target e then takes 0 (rest_of context.Expression)
    else (if is_assignment k && is_target e then takes 0 ((1, frame.Expression) ∷ []) else behind_operand false k)
behind_path context.Operand e k = if is_step k && is_target e then takes 0 [] else passes
behind_path context.Target e k = if is_step k || not (is_target e) then refuses else passes
behind_path context.Effect e k =
    if is_step k && is_target e then takes 0 []
    else (if is_assignment k && is_target e then takes 0 ((1, frame.Expression) ∷ [])
    else (if may_end context.Effect e then passes else refuses))

-- a cast may stand there
abbrev pub may_cast : Context → Bool
may_cast context.Expression = true
may_cast context.Operand = true
may_cast _ = false

-- how an operand begins
abbrev pub begins : Context → TokenKind → Move
begins c token.Identifier = goes (frame.Path c ending.Name ∷ [])
begins c token.This = goes (frame.Path c ending.Other ∷ [])
begins c token.LeftParen =
    if may_cast c then takes 1 ((0, frame.Opened c) ∷ [])
    else takes 1 ((1, frame.Expression) ∷ (1, frame.Expect token.RightParen) ∷ (0, frame.Path c ending.Other) ∷ [])
begins c token.Super = goes (frame.Expect token.Dot ∷ frame.Expect token.Identifier ∷ frame.OpenArguments ∷ frame.Path c ending.Call ∷ [])
begins c token.New = goes (frame.New c ∷ [])
begins context.Target k = if is_literal k then goes (frame.Path context.Target ending.Other ∷ []) else refuses
begins c k =
    if is_literal k then goes (frame.Path c ending.Other ∷ [])
    else (if is_step k then takes 0 ((1, frame.Target) ∷ rest_of c)
    else (if is_prefix k && may_cast c then takes 0 ((1, frame.Operand) ∷ rest_of c) else refuses))

-- an expression in parentheses, behind the opening one
abbrev pub parenthesized : Context → Move → Move
parenthesized c m = inside 1 ((1, frame.Expect token.RightParen) ∷ (0, frame.Path c ending.Other) ∷ []) m

-- behind a parenthesis that may begin a cast
abbrev pub opened : Context → TokenKind → Move
opened c token.Identifier = takes 1 ((0, frame.OpenedName c) ∷ [])
opened c k = if is_primitive k then takes 1 ((0, frame.CastType true c) ∷ []) else parenthesized c (begins context.Expression k)

abbrev pub opened_name : Context → TokenKind → Move
opened_name c token.RightParen = takes 1 ((0, frame.Enclosed c) ∷ [])
opened_name c token.LeftBracket = takes 1 ((0, frame.OpenedPair c) ∷ [])
opened_name c k = parenthesized c (behind_path context.Expression ending.Name k)

-- an index that an operand behind it ends in, behind its bracket
abbrev pub indexed : ℕ → List (ℕ × Frame) → TokenKind → Move
indexed n more k = inside n ((n, frame.Expect token.RightBracket) ∷ more) (begins context.Expression k)

abbrev pub opened_pair : Context → TokenKind → Move
opened_pair c token.RightBracket = takes 1 ((0, frame.CastType false c) ∷ [])
opened_pair c k =
    indexed 2 ((1, frame.Path context.Expression ending.Place) ∷ (1, frame.Expect token.RightParen) ∷ (0, frame.Path c ending.Other) ∷ []) k

abbrev pub cast_type : Bool → Context → TokenKind → Move
cast_type primitive c token.LeftBracket = takes 1 ((1, frame.Expect token.RightBracket) ∷ (0, frame.CastType primitive c) ∷ [])
cast_type true c token.RightParen = takes 1 ((1, frame.Operand) ∷ rest_of c)
cast_type false c token.RightParen = takes 1 ((1, frame.Unsigned) ∷ rest_of c)
cast_type primitive c k = refuses

abbrev pub enclosed : Context → TokenKind → Move
enclosed c k = if begins_unsigned k then inside 1 (rest_of c) (begins context.Operand k) else behind_path c ending.Other k

-- new objects and arrays
abbrev pub new_named : Context → TokenKind → Move
new_named c token.LeftParen = takes 1 ((1, frame.Arguments) ∷ (0, frame.Path c ending.Call) ∷ [])
new_named c token.LeftBracket = goes (frame.NewOpened c ∷ [])
new_named c k = refuses

abbrev pub new_primitive : Context → TokenKind → Move
new_primitive c token.LeftBracket = goes (frame.NewOpened c ∷ [])
new_primitive c k = refuses

abbrev pub new_begins : Context → TokenKind → Move
new_begins c token.Identifier = goes (frame.NewNamed c ∷ [])
new_begins c k = if is_primitive k then goes (frame.NewPrimitive c ∷ []) else refuses

abbrev pub new_opened : Context → TokenKind → Move
new_opened c token.RightBracket = goes (frame.NewFilled c ∷ [])
new_opened c k = indexed 1 ((0, frame.NewSized c) ∷ []) k

abbrev pub new_filled : Context → TokenKind → Move
new_filled c token.LeftBracket = goes (frame.Expect token.RightBracket ∷ frame.NewFilled c ∷ [])
new_filled c token.LeftBrace = takes 1 ((1, frame.Values) ∷ (0, frame.Path c ending.Other) ∷ [])
new_filled c k = refuses

abbrev pub new_sized : Context → TokenKind → Move
new_sized c token.LeftBracket = goes (frame.NewSizedOpened c ∷ [])
new_sized c k = behind_path c ending.Other k

abbrev pub new_sized_opened : Context → TokenKind → Move
new_sized_opened c token.RightBracket = goes (frame.NewUnsized c ∷ [])
new_sized_opened c k = indexed 1 ((0, frame.NewSized c) ∷ []) k

abbrev pub new_unsized : Context → TokenKind → Move
new_unsized c token.LeftBracket = goes (frame.NewUnsizedOpened c ∷ [])
new_unsized c k = behind_path c ending.Other k

abbrev pub new_unsized_opened : Context → TokenKind → Move
new_unsized_opened c token.RightBracket = goes (frame.NewUnsized c ∷ [])
new_unsized_opened c k = indexed 1 ((0, frame.Path c ending.Place) ∷ []) k

-- arguments, array initializers and types
abbrev pub arguments : TokenKind → Move
arguments token.RightParen = goes []
arguments k = inside 0 ((0, frame.MoreArguments) ∷ []) (begins context.Expression k)

abbrev pub more_arguments : TokenKind → Move
more_arguments token.RightParen = goes []
more_arguments token.Comma = goes (frame.Expression ∷ frame.MoreArguments ∷ [])
more_arguments k = refuses

abbrev pub initial : TokenKind → Move
initial token.LeftBrace = takes 1 ((1, frame.Values) ∷ [])
initial k = begins context.Expression k

abbrev pub values : TokenKind → Move
values token.RightBrace = goes []
values k = inside 0 ((0, frame.MoreValues) ∷ []) (initial k)

abbrev pub more_values : TokenKind → Move
more_values token.RightBrace = goes []
more_values token.Comma = goes (frame.Values ∷ [])
more_values k = refuses

abbrev pub brackets : TokenKind → Move
brackets token.LeftBracket = goes (frame.Expect token.RightBracket ∷ frame.Brackets ∷ [])
brackets k = passes

abbrev pub type_use : TokenKind → Move
type_use token.Identifier = goes (frame.Brackets ∷ [])
type_use k = if is_primitive k then goes (frame.Brackets ∷ []) else refuses

-- statements
abbrev pub statement : TokenKind → Move
statement token.LeftBrace = takes 1 ((1, frame.Statements) ∷ [])
statement token.Semicolon = goes []
statement token.If = takes 0 ((1, frame.Condition) ∷ (1, frame.Statement) ∷ (0, frame.Else) ∷ [])
statement token.While = takes 0 ((1, frame.Condition) ∷ (1, frame.Statement) ∷ [])
statement token.Do =
    takes 0 ((1, frame.Statement) ∷ (0, frame.Expect token.While) ∷ (1, frame.Condition) ∷ (0, frame.Expect token.Semicolon) ∷ [])
statement token.For = takes 0 ((1, frame.For) ∷ (1, frame.Statement) ∷ [])
statement token.Switch = takes 0 ((1, frame.Condition) ∷ (1, frame.Switch) ∷ [])
statement token.Break = goes (frame.Expect token.Semicolon ∷ [])
statement token.Continue = goes (frame.Expect token.Semicolon ∷ [])
statement token.Return = goes (frame.Returned ∷ [])
statement token.Throw = goes (frame.Expression ∷ frame.Expect token.Semicolon ∷ [])
statement token.Try = takes 0 ((1, frame.Block) ∷ (0, frame.Catches) ∷ [])
statement k = inside 0 ((0, frame.Expect token.Semicolon) ∷ []) (begins context.Effect k)

abbrev pub condition : TokenKind → Move
condition token.LeftParen = goes (frame.Expression ∷ frame.Expect token.RightParen ∷ [])
condition k = refuses

abbrev pub else_branch : TokenKind → Move
else_branch token.Else = takes 0 ((1, frame.Statement) ∷ [])
else_branch k = passes

abbrev pub block : TokenKind → Move
block token.LeftBrace = goes (frame.Statements ∷ [])
block k = refuses

-- a variable, behind its type, up to its name
abbrev pub named_by : List Frame → List Frame
named_by fs = frame.Brackets ∷ frame.Expect token.Identifier ∷ fs

-- behind `var`
abbrev pub inferred : List Frame → List Frame
inferred fs = frame.Expect token.Identifier ∷ frame.Expect token.Assign ∷ frame.Expression ∷ fs

abbrev pub variable : TokenKind → Move
variable token.Var = goes (inferred [])
variable token.Identifier = goes (named_by (frame.Initialized ∷ []))
variable k = if is_primitive k then goes (named_by (frame.Initialized ∷ [])) else refuses

abbrev pub initialized : TokenKind → Move
initialized token.Assign = goes (frame.Initial ∷ [])
initialized k = passes

abbrev pub block_statement : TokenKind → Move
block_statement token.Final = goes (frame.Variable ∷ frame.Expect token.Semicolon ∷ [])
block_statement token.Identifier = goes (frame.Named ∷ [])
block_statement token.Var = goes (inferred (frame.Expect token.Semicolon ∷ []))
block_statement k =
    if is_primitive k then goes (named_by (frame.Initialized ∷ frame.Expect token.Semicolon ∷ [])) else statement k

abbrev pub statements : TokenKind → Move
statements token.RightBrace = goes []
statements k = inside 0 ((0, frame.Statements) ∷ []) (block_statement k)

abbrev pub named : TokenKind → Move
named token.Identifier = goes (frame.Initialized ∷ frame.Expect token.Semicolon ∷ [])
named token.LeftBracket = goes (frame.NamedPair ∷ [])
named k = inside 0 ((0, frame.Expect token.Semicolon) ∷ []) (behind_path context.Effect ending.Name k)

abbrev pub named_pair : TokenKind → Move
named_pair token.RightBracket = goes (named_by (frame.Initialized ∷ frame.Expect token.Semicolon ∷ []))
named_pair k = indexed 1 ((0, frame.Path context.Effect ending.Place) ∷ (0, frame.Expect token.Semicolon) ∷ []) k

abbrev pub returned : TokenKind → Move
returned token.Semicolon = goes []
returned k = inside 0 ((0, frame.Expect token.Semicolon) ∷ []) (begins context.Expression k)

-- what stands between the parentheses of a `for`
abbrev pub for_head : TokenKind → Move
for_head token.LeftParen = goes (frame.ForStart ∷ [])
for_head k = refuses

abbrev pub for_variable : TokenKind → Move
for_variable token.Var = goes (frame.Expect token.Identifier ∷ frame.ForInferred ∷ [])
for_variable token.Identifier = goes (named_by (frame.ForTyped ∷ []))
for_variable k = if is_primitive k then goes (named_by (frame.ForTyped ∷ [])) else refuses

abbrev pub for_start : TokenKind → Move
for_start token.Semicolon = goes (frame.ForCondition ∷ [])
for_start token.Final = goes (frame.ForVariable ∷ [])
for_start token.Var = goes (frame.Expect token.Identifier ∷ frame.ForInferred ∷ [])
for_start token.Identifier = goes (frame.ForNamed ∷ [])
for_start k =
    if is_primitive k then goes (named_by (frame.ForTyped ∷ []))
    else inside 0 ((0, frame.Expect token.Semicolon) ∷ (0, frame.ForCondition) ∷ []) (begins context.Effect k)

-- the elements of a `for` that goes over an array
abbrev pub elements : Move
elements = goes (frame.Expression ∷ frame.Expect token.RightParen ∷ [])

abbrev pub for_inferred : TokenKind → Move
for_inferred token.Colon = elements
for_inferred token.Assign = goes (frame.Expression ∷ frame.Expect token.Semicolon ∷ frame.ForCondition ∷ [])
for_inferred k = refuses

abbrev pub for_typed : TokenKind → Move
for_typed token.Colon = elements
for_typed token.Assign = goes (frame.Initial ∷ frame.Expect token.Semicolon ∷ frame.ForCondition ∷ [])
for_typed token.Semicolon = goes (frame.ForCondition ∷ [])
for_typed k = refuses

abbrev pub for_named : TokenKind → Move
for_named token.Identifier = goes (frame.ForTyped ∷ [])
for_named token.LeftBracket = goes (frame.ForPair ∷ [])
for_named k = inside 0 ((0, frame.Expect token.Semicolon) ∷ (0, frame.ForCondition) ∷ []) (behind_path context.Effect ending.Name k)

abbrev pub for_pair : TokenKind → Move
for_pair token.RightBracket = goes (named_by (frame.ForTyped ∷ []))
for_pair k =
    indexed 1 ((0, frame.Path context.Effect ending.Place) ∷ (0, frame.Expect token.Semicolon) ∷ (0, frame.ForCondition) ∷ []) k

abbrev pub for_condition : TokenKind → Move
for_condition token.Semicolon = goes (frame.ForUpdate ∷ [])
for_condition k = inside 0 ((0, frame.Expect token.Semicolon) ∷ (0, frame.ForUpdate) ∷ []) (begins context.Expression k)

abbrev pub for_update : TokenKind → Move
for_update token.RightParen = goes []
for_update k = inside 0 ((0, frame.Expect token.RightParen) ∷ []) (begins context.Effect k)

-- `switch` and `try`
abbrev pub switch_block : TokenKind → Move
switch_block token.LeftBrace = goes (frame.Groups ∷ [])
switch_block k = refuses

abbrev pub groups : TokenKind → Move
groups token.RightBrace = goes []
groups token.Case = goes (frame.CaseValue ∷ frame.Group ∷ [])
groups token.Default = goes (frame.Expect token.Colon ∷ frame.Group ∷ [])
groups k = refuses

abbrev pub group : TokenKind → Move
group token.RightBrace = goes []
group token.Case = goes (frame.CaseValue ∷ frame.Group ∷ [])
group token.Default = goes (frame.Expect token.Colon ∷ frame.Group ∷ [])
group k = inside 0 ((0, frame.Group) ∷ []) (block_statement k)

abbrev pub negative_value : TokenKind → Move
negative_value k = if is_case_value k then goes (frame.Expect token.Colon ∷ []) else refuses

abbrev pub case_value : TokenKind → Move
case_value token.Minus = goes (frame.NegativeValue ∷ [])
case_value k = negative_value k

abbrev pub catches : TokenKind → Move
catches token.Catch = takes 0 (
    (0, frame.Expect token.LeftParen) ∷ (0, frame.CatchType) ∷ (0, frame.Expect token.Identifier) ∷ (0, frame.Expect token.RightParen) ∷ (1, frame.Block)
    ∷ (0, frame.MoreCatches) ∷ [])
catches k = refuses

abbrev pub more_catches : TokenKind → Move
more_catches token.Catch = catches token.Catch
more_catches k = passes

abbrev pub catch_type : TokenKind → Move
catch_type token.Final = goes (frame.Expect token.Identifier ∷ [])
catch_type token.Identifier = goes []
catch_type k = refuses

-- imports
abbrev pub import_name : TokenKind → Move
import_name token.Static = goes (frame.Expect token.Identifier ∷ frame.Expect token.Dot ∷ frame.DottedName ∷ [])
import_name token.Identifier = goes (frame.Expect token.Dot ∷ frame.DottedName ∷ [])
import_name k = refuses

abbrev pub dotted_name : TokenKind → Move
dotted_name token.Identifier = goes (frame.MoreDotted ∷ [])
dotted_name token.Star = goes (frame.Expect token.Semicolon ∷ [])
dotted_name k = refuses

abbrev pub more_dotted : TokenKind → Move
more_dotted token.Dot = goes (frame.DottedName ∷ [])
more_dotted token.Semicolon = goes []
more_dotted k = refuses

-- declarations
abbrev pub declaration : TokenKind → Move
declaration token.Class =
    takes 0 ((0, frame.Expect token.Identifier) ∷ (0, frame.Superclass) ∷ (0, frame.NamesBehind token.Implements) ∷ (1, frame.ClassBody) ∷ [])
declaration token.Interface = takes 0 ((0, frame.Expect token.Identifier) ∷ (0, frame.NamesBehind token.Extends) ∷ (1, frame.InterfaceBody) ∷ [])
declaration token.Void =
    takes 0 ((0, frame.Expect token.Identifier) ∷ (0, frame.Parameters) ∷ (0, frame.NamesBehind token.Throws) ∷ (1, frame.Block) ∷ [])
declaration token.Var = goes (inferred (frame.Expect token.Semicolon ∷ []))
declaration k =
    if is_modifier k then goes (frame.Declaration ∷ [])
    else (if is_primitive k then goes (named_by (frame.MethodOrVariable ∷ [])) else refuses)

abbrev pub declaration_behind : TokenKind → Move
declaration_behind token.Identifier = goes (named_by (frame.MethodOrVariable ∷ []))
declaration_behind k = declaration k

-- what only a declaration of a snippet begins with
abbrev pub begins_declaration : TokenKind → Bool
begins_declaration token.Class = true
begins_declaration token.Interface = true
begins_declaration token.Void = true
begins_declaration token.Var = true
begins_declaration k = is_modifier k || is_primitive k

-- what only a statement begins with that is no expression
abbrev pub begins_statement : TokenKind → Bool
begins_statement token.LeftBrace = true
begins_statement token.Semicolon = true
begins_statement token.If = true
begins_statement token.While = true
begins_statement token.Do = true
begins_statement token.For = true
begins_statement token.Switch = true
begins_statement token.Break = true
begins_statement token.Continue = true
begins_statement token.Return = true
begins_statement token.Throw = true
begins_statement token.Try = true
begins_statement _ = false

abbrev pub snippet : TokenKind → Move
snippet token.Import = goes (frame.Import ∷ [])
snippet token.Identifier = goes (frame.NamedSnippet ∷ [])
snippet k =
    if begins_declaration k then declaration k
    else (if begins_statement k then statement k else inside 0 ((0, frame.Expect token.Semicolon) ∷ []) (begins context.Expression k))

abbrev pub named_snippet : TokenKind → Move
named_snippet token.Identifier = goes (frame.MethodOrVariable ∷ [])
named_snippet token.LeftBracket = goes (frame.NamedSnippetPair ∷ [])
named_snippet token.Semicolon = goes []
named_snippet k = inside 0 ((0, frame.Expect token.Semicolon) ∷ []) (behind_path context.Expression ending.Name k)

abbrev pub named_snippet_pair : TokenKind → Move
named_snippet_pair token.RightBracket = goes (named_by (frame.MethodOrVariable ∷ []))
named_snippet_pair k = indexed 1 ((0, frame.Path context.Expression ending.Place) ∷ (0, frame.Expect token.Semicolon) ∷ []) k

abbrev pub method_or_variable : TokenKind → Move
method_or_variable token.LeftParen = takes 0 ((0, frame.ParametersInside) ∷ (0, frame.NamesBehind token.Throws) ∷ (1, frame.Block) ∷ [])
method_or_variable token.Assign = goes (frame.Initial ∷ frame.Expect token.Semicolon ∷ [])
method_or_variable token.Semicolon = goes []
method_or_variable k = refuses

abbrev pub superclass : TokenKind → Move
superclass token.Extends = goes (frame.Expect token.Identifier ∷ [])
superclass k = passes

-- the words behind which names stand
abbrev pub is_same_word : TokenKind → TokenKind → Bool
is_same_word token.Implements token.Implements = true
is_same_word token.Extends token.Extends = true
is_same_word token.Throws token.Throws = true
is_same_word _ _ = false

abbrev pub names_behind : TokenKind → TokenKind → Move
names_behind word k = if is_same_word word k then goes (frame.Names ∷ []) else passes

abbrev pub names : TokenKind → Move
names token.Identifier = goes (frame.MoreNames ∷ [])
names k = refuses

abbrev pub more_names : TokenKind → Move
more_names token.Comma = goes (frame.Names ∷ [])
more_names k = passes

abbrev pub parameters : TokenKind → Move
parameters token.LeftParen = goes (frame.ParametersInside ∷ [])
parameters k = refuses

abbrev pub parameter : TokenKind → Move
parameter token.Final = goes (frame.Type ∷ frame.Expect token.Identifier ∷ frame.MoreParameters ∷ [])
parameter token.Identifier = goes (named_by (frame.MoreParameters ∷ []))
parameter k = if is_primitive k then goes (named_by (frame.MoreParameters ∷ [])) else refuses

abbrev pub parameters_inside : TokenKind → Move
parameters_inside token.RightParen = goes []
parameters_inside k = parameter k

abbrev pub more_parameters : TokenKind → Move
more_parameters token.RightParen = goes []
more_parameters token.Comma = goes (frame.Parameter ∷ [])
more_parameters k = refuses

-- classes
abbrev pub class_body : TokenKind → Move
class_body token.LeftBrace = goes (frame.Members ∷ [])
class_body k = refuses

abbrev pub class_member : TokenKind → Move
class_member token.Void =
    goes (frame.Expect token.Identifier ∷ frame.Parameters ∷ frame.NamesBehind token.Throws ∷ frame.MethodBody ∷ frame.Members ∷ [])
class_member token.Identifier = goes (frame.NamedMember ∷ [])
class_member k =
    if is_member_modifier k then goes (frame.ClassMember ∷ [])
    else (if is_primitive k then goes (named_by (frame.FieldOrMethod ∷ frame.Members ∷ [])) else refuses)

abbrev pub members : TokenKind → Move
members token.RightBrace = goes []
members token.Semicolon = goes (frame.Members ∷ [])
members k = class_member k

abbrev pub named_member : TokenKind → Move
named_member token.LeftParen =
    takes 0 ((0, frame.ParametersInside) ∷ (0, frame.NamesBehind token.Throws) ∷ (1, frame.ConstructorBody) ∷ (0, frame.Members) ∷ [])
named_member token.LeftBracket = goes (frame.Expect token.RightBracket ∷ named_by (frame.FieldOrMethod ∷ frame.Members ∷ []))
named_member token.Identifier = goes (frame.FieldOrMethod ∷ frame.Members ∷ [])
named_member k = refuses

abbrev pub field_or_method : TokenKind → Move
field_or_method token.LeftParen = goes (frame.ParametersInside ∷ frame.NamesBehind token.Throws ∷ frame.MethodBody ∷ [])
field_or_method token.Assign = goes (frame.Initial ∷ frame.Expect token.Semicolon ∷ [])
field_or_method token.Semicolon = goes []
field_or_method k = refuses

abbrev pub method_body : TokenKind → Move
method_body token.Semicolon = goes []
method_body token.LeftBrace = takes 1 ((1, frame.Statements) ∷ [])
method_body k = refuses

abbrev pub constructor_body : TokenKind → Move
constructor_body token.LeftBrace = goes (frame.FirstCall ∷ [])
constructor_body k = refuses

abbrev pub first_call : TokenKind → Move
first_call token.This = goes (frame.ThisFirst ∷ [])
first_call token.Super = goes (frame.SuperFirst ∷ [])
first_call k = statements k

-- what stands behind the arguments of the first call of a constructor
abbrev pub called_first : Move
called_first = takes 1 ((1, frame.Arguments) ∷ (0, frame.Expect token.Semicolon) ∷ (0, frame.Statements) ∷ [])

abbrev pub this_first : TokenKind → Move
this_first token.LeftParen = called_first
this_first k = inside 0 ((0, frame.Expect token.Semicolon) ∷ (0, frame.Statements) ∷ []) (behind_path context.Effect ending.Other k)

abbrev pub super_first : TokenKind → Move
super_first token.LeftParen = called_first
super_first token.Dot = goes (
    frame.Expect token.Identifier ∷ frame.OpenArguments ∷ frame.Path context.Effect ending.Call ∷ frame.Expect token.Semicolon ∷ frame.Statements ∷ [])
super_first k = refuses

-- interfaces
abbrev pub interface_body : TokenKind → Move
interface_body token.LeftBrace = goes (frame.Signatures ∷ [])
interface_body k = refuses

-- a method without a body, behind its result
abbrev pub signed : List Frame
signed = frame.Parameters ∷ frame.NamesBehind token.Throws ∷ frame.Expect token.Semicolon ∷ frame.Signatures ∷ []

abbrev pub signature : TokenKind → Move
signature token.Void = goes (frame.Expect token.Identifier ∷ signed)
signature token.Identifier = goes (named_by signed)
signature k =
    if is_interface_modifier k then goes (frame.Signature ∷ []) else (if is_primitive k then goes (named_by signed) else refuses)

abbrev pub signatures : TokenKind → Move
signatures token.RightBrace = goes []
signatures k = signature k

-- what a frame does with a token, but for a token that it expects
abbrev pub move_of : Frame → TokenKind → Move
move_of (frame.Expect wanted) k = refuses
move_of frame.Expression k = begins context.Expression k
move_of frame.Conditional k = inside 0 ((0, frame.Operators false) ∷ []) (begins context.Operand k)
move_of frame.Operand k = begins context.Operand k
move_of frame.Unsigned k = if is_sign k then refuses else begins context.Operand k
move_of frame.Target k = begins context.Target k
move_of frame.Effect k = begins context.Effect k
move_of (frame.Operators behind_type) k = behind_operand behind_type k
move_of (frame.Path c e) k = behind_path c e k
move_of (frame.Member c) token.Identifier = goes (frame.Path c ending.Name ∷ [])
move_of (frame.Member c) k = refuses
move_of (frame.Opened c) k = opened c k
move_of (frame.OpenedName c) k = opened_name c k
move_of (frame.OpenedPair c) k = opened_pair c k
move_of (frame.CastType primitive c) k = cast_type primitive c k
move_of (frame.Enclosed c) k = enclosed c k
move_of (frame.New c) k = new_begins c k
move_of (frame.NewNamed c) k = new_named c k
move_of (frame.NewPrimitive c) k = new_primitive c k
move_of (frame.NewOpened c) k = new_opened c k
move_of (frame.NewFilled c) k = new_filled c k
move_of (frame.NewSized c) k = new_sized c k
move_of (frame.NewSizedOpened c) k = new_sized_opened c k
move_of (frame.NewUnsized c) k = new_unsized c k
move_of (frame.NewUnsizedOpened c) k = new_unsized_opened c k
move_of frame.OpenArguments token.LeftParen = takes 1 ((1, frame.Arguments) ∷ [])
move_of frame.OpenArguments k = refuses
move_of frame.Arguments k = arguments k
move_of frame.MoreArguments k = more_arguments k
move_of frame.Values k = values k
move_of frame.MoreValues k = more_values k
move_of frame.Initial k = initial k
move_of frame.Type k = type_use k
move_of frame.Brackets k = brackets k
move_of frame.Statement k = statement k
move_of frame.Condition k = condition k
move_of frame.Else k = else_branch k
move_of frame.Block k = block k
move_of frame.Statements k = statements k
move_of frame.Named k = named k
move_of frame.NamedPair k = named_pair k
move_of frame.Variable k = variable k
move_of frame.Initialized k = initialized k
move_of frame.Returned k = returned k
move_of frame.For k = for_head k
move_of frame.ForStart k = for_start k
move_of frame.ForVariable k = for_variable k
move_of frame.ForInferred k = for_inferred k
move_of frame.ForTyped k = for_typed k
move_of frame.ForNamed k = for_named k
move_of frame.ForPair k = for_pair k
move_of frame.ForCondition k = for_condition k
move_of frame.ForUpdate k = for_update k
move_of frame.Switch k = switch_block k
move_of frame.Groups k = groups k
move_of frame.Group k = group k
move_of frame.CaseValue k = case_value k
move_of frame.NegativeValue k = negative_value k
move_of frame.Catches k = catches k
move_of frame.MoreCatches k = more_catches k
move_of frame.CatchType k = catch_type k
move_of frame.Snippet k = snippet k
move_of frame.Import k = import_name k
move_of frame.DottedName k = dotted_name k
move_of frame.MoreDotted k = more_dotted k
move_of frame.Declaration k = declaration_behind k
move_of frame.MethodOrVariable k = method_or_variable k
move_of frame.NamedSnippet k = named_snippet k
move_of frame.NamedSnippetPair k = named_snippet_pair k
move_of frame.Superclass k = superclass k
move_of (frame.NamesBehind word) k = names_behind word k
move_of frame.Names k = names k
move_of frame.MoreNames k = more_names k
move_of frame.Parameters k = parameters k
move_of frame.ParametersInside k = parameters_inside k
move_of frame.Parameter k = parameter k
move_of frame.MoreParameters k = more_parameters k
move_of frame.ClassBody k = class_body k
move_of frame.Members k = members k
move_of frame.ClassMember k = class_member k
move_of frame.NamedMember k = named_member k
move_of frame.FieldOrMethod k = field_or_method k
move_of frame.MethodBody k = method_body k
move_of frame.ConstructorBody k = constructor_body k
move_of frame.FirstCall k = first_call k
move_of frame.ThisFirst k = this_first k
move_of frame.SuperFirst k = super_first k
move_of frame.InterfaceBody k = interface_body k
move_of frame.Signatures k = signatures k
move_of frame.Signature k = signature k

-- nothing more need come of the frame
abbrev pub may_stop : Frame → Bool
may_stop (frame.Operators behind_type) = true
may_stop (frame.Path c e) = may_end c e
may_stop (frame.Enclosed c) = may_end c ending.Other
may_stop (frame.NewSized c) = may_end c ending.Other
may_stop (frame.NewUnsized c) = may_end c ending.Other
may_stop frame.Brackets = true
may_stop frame.Else = true
may_stop frame.Initialized = true
may_stop frame.MoreCatches = true
may_stop frame.Superclass = true
may_stop (frame.NamesBehind word) = true
may_stop frame.MoreNames = true
may_stop _ = false

-- Frames with the depths at which they stand, the next one first.
abbrev pub Frames : Type 0
Frames = List (ℕ × Frame)

-- these frames, each so many parts deeper, in front of others
abbrev pub onto : ℕ → List (ℕ × Frame) → Frames → Frames
onto depth fs rest = map (λ f. (depth + f.0, f.1)) fs ++ rest

-- One token: the first frame takes it, or is done and the next one has it.
pub data Steps : Frames → TokenKind → ℕ → Frames → Type 0 where
  expected : {depth : ℕ} {k : TokenKind} {rest : Frames} → Steps ((depth, frame.Expect k) ∷ rest) k depth rest
  moved : {depth own : ℕ} {f : Frame} {k : TokenKind} {fs : List (ℕ × Frame)} {rest : Frames} →
      move_of f k ≡ takes own fs → Steps ((depth, f) ∷ rest) k (depth + own) (onto depth fs rest)
  passed : {depth at : ℕ} {f : Frame} {k : TokenKind} {rest next : Frames} →
      move_of f k ≡ passes → Steps rest k at next → Steps ((depth, f) ∷ rest) k at next

-- The frames that come of these tokens, none of which stands deeper than the limit.
pub data Runs (limit : ℕ) : Frames → List TokenKind → Frames → Type 0 where
  at_end : {fs : Frames} → Runs limit fs [] fs
  one_more : {at : ℕ} {fs next last : Frames} {k : TokenKind} {ks : List TokenKind} →
      Steps fs k at next → at ≤ limit → Runs limit next ks last → Runs limit fs (k ∷ ks) last

-- nothing more need come
abbrev pub may_all_stop : Frames → Bool
may_all_stop [] = true
may_all_stop (f ∷ fs) = may_stop f.1 && may_all_stop fs
