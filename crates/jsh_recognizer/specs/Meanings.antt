-- What the recognizer's frames stand for: stacks of symbols of the table. A frame may stand for several, which part by what comes next.
use Rattle.std.specs.Prelude.{◌≡◌, ℕ, zero, suc, ◌+◌, Bool, true, false, List, [], ◌∷◌, ◌++◌}
use Rattle.jsh_tree.specs.declared.token.TokenKind.{TokenKind}
use Rattle.jsh_tree.specs.declared.token.TokenKind.TheVariants as token
use Rattle.jsh_grammar.specs.Classes.{is_primitive, is_type_name, is_assignment, is_step, is_case_value}
use Rattle.jsh_grammar.specs.Productions.{Part, Symbol, a, any, part, deep, IsProduction}
use Rattle.jsh_grammar.specs.Productions as table
use Rattle.jsh_grammar.specs.Leads.{in_room}
use Rattle.jsh_recognizer.specs.declared.frame.Context.{Context}
use Rattle.jsh_recognizer.specs.declared.frame.Context.TheVariants as context
use Rattle.jsh_recognizer.specs.declared.frame.Ending.{Ending}
use Rattle.jsh_recognizer.specs.declared.frame.Ending.TheVariants as ending
use Rattle.jsh_recognizer.specs.declared.frame.Frame.{Frame}
use Rattle.jsh_recognizer.specs.declared.frame.Frame.TheVariants as frame
use Rattle.jsh_recognizer.specs.Machine.{Frames, is_target, may_cast}

-- symbols, each with the room that it has, the next one first
abbrev pub Stack : Type 0
Stack = List (ℕ × Symbol)

-- Kinds of tokens that a stack begins with, or, where the flag is set, that it is as a whole.
pub data Follows : Bool → Stack → List TokenKind → Type 0 where
  so_far : {stack : Stack} → Follows false stack []
  all_read : {whole : Bool} → Follows whole [] []
  by_token : {whole : Bool} {room : ℕ} {k : TokenKind} {stack : Stack} {ks : List TokenKind} → Follows whole stack ks → Follows whole ((room, a k) ∷ stack) (k ∷ ks)
  by_class : {whole : Bool} {room : ℕ} {test : TokenKind → Bool} {k : TokenKind} {stack : Stack} {ks : List TokenKind} →
      test k ≡ true → Follows whole stack ks → Follows whole ((room, any test) ∷ stack) (k ∷ ks)
  by_part : {whole : Bool} {room : ℕ} {n : Part} {p : List Symbol} {stack : Stack} {ks : List TokenKind} →
      IsProduction n p → Follows whole (in_room room p ++ stack) ks → Follows whole ((room, part n) ∷ stack) ks
  by_deep : {whole : Bool} {room : ℕ} {n : Part} {p : List Symbol} {stack : Stack} {ks : List TokenKind} →
      IsProduction n p → Follows whole (in_room room p ++ stack) ks → Follows whole ((suc room, deep n) ∷ stack) ks

-- the frames that the recognizer begins with
pub data Starts : Part → Frame → Type 0 where
  with_expression : Starts table.expression frame.Expression
  with_statement : Starts table.statement frame.Statement
  with_snippet : Starts table.snippet frame.Snippet

-- ---- operands, and what may stand behind them

-- the operators of a level and of all that bind less
abbrev pub down_from : ℕ → List Symbol
down_from zero = part (table.operations zero) ∷ []
down_from (suc n) = part (table.operations (suc n)) ∷ down_from n

-- the branches of a conditional, or nothing
pub data Choices (room : ℕ) : Stack → Type 0 where
  no_choice : Choices room []
  one_choice : Choices room (in_room room (a token.Question ∷ deep table.expression ∷ a token.Colon ∷ deep table.conditional ∷ []))

-- the operators of a level and of all that bind less, and then perhaps the branches of a conditional
pub data Tail (room level : ℕ) : Stack → Type 0 where
  tail : {choice : Stack} → Choices room choice → Tail room level (in_room room (down_from level) ++ choice)

-- the rest of an expression behind an operand, where there may be one
pub data Behind (room : ℕ) : Context → Stack → Type 0 where
  behind_first : {tail : Stack} → Tail room 9 tail → Behind room context.Expression tail
  behind_other : Behind room context.Operand []

-- What may stand behind a whole path.
pub data After (room : ℕ) : Context → Ending → Stack → Type 0 where
  value : {c : Context} {e : Ending} {tail : Stack} → Behind room c tail → After room c e tail
  stepped : {c : Context} {e : Ending} {tail : Stack} → is_target e ≡ true → Behind room c tail → After room c e ((room, any is_step) ∷ tail)
  stepped_effect : {e : Ending} → is_target e ≡ true → After room context.Effect e ((room, any is_step) ∷ [])
  assigned : {e : Ending} → is_target e ≡ true → After room context.Expression e ((room, any is_assignment) ∷ (room, deep table.expression) ∷ [])
  assigned_effect : {e : Ending} → is_target e ≡ true → After room context.Effect e ((room, any is_assignment) ∷ (room, deep table.expression) ∷ [])
  as_target : {e : Ending} → is_target e ≡ true → After room context.Target e []
  as_effect : After room context.Effect ending.Call []

-- Further places and calls, and what stands behind them.
pub data More (room : ℕ) : Context → Ending → Stack → Type 0 where
  no_more : {c : Context} {e : Ending} {rest : Stack} → After room c e rest → More room c e rest
  more_places : {c : Context} {e : Ending} {rest : Stack} → More room c ending.Place rest → More room c e ((room, part table.place) ∷ rest)
  more_calls : {c : Context} {e : Ending} {rest : Stack} → More room c ending.Call rest →
      More room c e ((room, a token.Dot) ∷ (room, a token.Identifier) ∷ (room, deep table.arguments) ∷ rest)

-- behind a path, whose last name may be called
pub data Paths (room : ℕ) : Context → Ending → Stack → Type 0 where
  as_it_ends : {c : Context} {e : Ending} {rest : Stack} → More room c e rest → Paths room c e rest
  name_called : {c : Context} {rest : Stack} → More room c ending.Call rest → Paths room c ending.Name ((room, deep table.arguments) ∷ rest)

-- behind a new array whose last brackets have a size in them: no index
pub data Unindexed (room : ℕ) : Context → Stack → Type 0 where
  none_selected : {c : Context} {rest : Stack} → After room c ending.Other rest → Unindexed room c rest
  field_selected : {c : Context} {rest : Stack} → More room c ending.Place rest →
      Unindexed room c ((room, a token.Dot) ∷ (room, a token.Identifier) ∷ rest)
  call_selected : {c : Context} {rest : Stack} → More room c ending.Call rest →
      Unindexed room c ((room, a token.Dot) ∷ (room, a token.Identifier) ∷ (room, deep table.arguments) ∷ rest)

-- what makes it a new array with all its sizes in front, or one that is closed by empty brackets
pub data Sized (room : ℕ) : Context → Stack → Type 0 where
  sized : {c : Context} {rest : Stack} → Unindexed room c rest → Sized room c rest
  closed : {c : Context} {rest : Stack} → More room c ending.Other rest →
      Sized room c (in_room room (a token.LeftBracket ∷ a token.RightBracket ∷ part table.brackets ∷ []) ++ rest)

-- behind a size
pub data Sizes (room : ℕ) : Context → Stack → Type 0 where
  last_of_sizes : {c : Context} {rest : Stack} → Sized room c rest → Sizes room c rest
  more_of_sizes : {c : Context} {rest : Stack} → Sized room c rest → Sizes room c ((room, part table.sizes) ∷ rest)

-- behind `new` and the name of a type
pub data Created (room : ℕ) : Context → Stack → Type 0 where
  with_sizes : {c : Context} {rest : Stack} → Sized room c rest → Created room c ((room, part table.sizes) ∷ rest)
  with_values : {c : Context} {rest : Stack} → More room c ending.Other rest →
      Created room c (in_room room (a token.LeftBracket ∷ a token.RightBracket ∷ part table.brackets ∷ deep table.braces ∷ []) ++ rest)

-- an index behind its bracket, where it takes room
pub data Indexed : ℕ → Stack → Stack → Type 0 where
  indexed : {room : ℕ} {rest : Stack} → Indexed (suc room) rest (in_room room (part table.expression ∷ a token.RightBracket ∷ []) ++ rest)

-- behind a parenthesis, an expression in it or the type of a cast
pub data Opens : ℕ → Context → Stack → Type 0 where
  in_parentheses : {room : ℕ} {c : Context} {rest : Stack} → More (suc room) c ending.Other rest →
      Opens (suc room) c (in_room room (part table.expression ∷ a token.RightParen ∷ []) ++ rest)
  primitive_cast : {room : ℕ} {c : Context} {rest : Stack} → Behind (suc room) c rest →
      Opens (suc room) c (in_room room (any is_primitive ∷ part table.brackets ∷ a token.RightParen ∷ []) ++ (suc room, deep table.unary) ∷ rest)
  named_cast : {room : ℕ} {c : Context} {rest : Stack} → Behind (suc room) c rest →
      Opens (suc room) c (in_room room (a token.Identifier ∷ part table.brackets ∷ a token.RightParen ∷ []) ++ (suc room, deep table.unsigned) ∷ rest)

-- the same, behind a name in it
pub data OpensNamed : ℕ → Context → Stack → Type 0 where
  named_in_parentheses : {room : ℕ} {c : Context} {inside rest : Stack} → Paths room context.Expression ending.Name inside → More (suc room) c ending.Other rest →
      OpensNamed (suc room) c (inside ++ (room, a token.RightParen) ∷ rest)
  named_of_cast : {room : ℕ} {c : Context} {rest : Stack} → Behind (suc room) c rest →
      OpensNamed (suc room) c (in_room room (part table.brackets ∷ a token.RightParen ∷ []) ++ (suc room, deep table.unsigned) ∷ rest)

-- the same, behind a bracket behind the name
pub data OpensPair : ℕ → Context → Stack → Type 0 where
  index_in_parentheses : {room : ℕ} {c : Context} {inside rest : Stack} → More (suc room) context.Expression ending.Place inside → More (suc (suc room)) c ending.Other rest →
      OpensPair (suc (suc room)) c (in_room room (part table.expression ∷ a token.RightBracket ∷ []) ++ (inside ++ (suc room, a token.RightParen) ∷ rest))
  pair_of_cast : {room : ℕ} {c : Context} {rest : Stack} → Behind (suc room) c rest →
      OpensPair (suc room) c (in_room room (a token.RightBracket ∷ part table.brackets ∷ a token.RightParen ∷ []) ++ (suc room, deep table.unsigned) ∷ rest)

-- behind the type of a cast
pub data Casts : ℕ → Bool → Context → Stack → Type 0 where
  primitive_type : {room : ℕ} {c : Context} {rest : Stack} → Behind (suc room) c rest →
      Casts (suc room) true c (in_room room (part table.brackets ∷ a token.RightParen ∷ []) ++ (suc room, deep table.unary) ∷ rest)
  named_type : {room : ℕ} {c : Context} {rest : Stack} → Behind (suc room) c rest →
      Casts (suc room) false c (in_room room (part table.brackets ∷ a token.RightParen ∷ []) ++ (suc room, deep table.unsigned) ∷ rest)

-- ---- the parts that frames stand for

-- a part, where the frame stands as deep as it
pub data IsPartOf : Frame → Part → Type 0 where
  an_expression : IsPartOf frame.Expression table.expression
  a_conditional : IsPartOf frame.Conditional table.conditional
  an_operand : IsPartOf frame.Operand table.unary
  an_unsigned : IsPartOf frame.Unsigned table.unsigned
  a_target : IsPartOf frame.Target table.target
  an_effect : IsPartOf frame.Effect table.statement_expression
  an_initial : IsPartOf frame.Initial table.initial
  a_type : IsPartOf frame.Type table.type_use
  a_condition : IsPartOf frame.Condition table.parenthesized
  a_block : IsPartOf frame.Block table.block
  a_variable : IsPartOf frame.Variable table.variable
  a_for_head : IsPartOf frame.For table.for_head
  an_each_head : IsPartOf frame.For table.each_head
  a_switch : IsPartOf frame.Switch table.switch_block
  some_catches : IsPartOf frame.Catches table.catches
  a_snippet : IsPartOf frame.Snippet table.snippet
  some_names : IsPartOf frame.Names table.names
  some_parameters : IsPartOf frame.Parameters table.parameters
  a_class_body : IsPartOf frame.ClassBody table.class_body
  a_constructor_body : IsPartOf frame.ConstructorBody table.constructor_body
  an_interface_body : IsPartOf frame.InterfaceBody table.interface_body

-- ---- what frames within productions stand for

-- a `for` behind its start, up to its parenthesis
abbrev pub for_rest : List Symbol
for_rest = a token.Semicolon ∷ part table.optional ∷ a token.Semicolon ∷ part table.update ∷ a token.RightParen ∷ []

-- the elements of one, behind its variable
abbrev pub each_rest : List Symbol
each_rest = a token.Colon ∷ part table.expression ∷ a token.RightParen ∷ []

-- a method of a class, behind its name
abbrev pub method_rest : List Symbol → List Symbol
method_rest body = part table.parameters ∷ part (table.names_behind token.Throws) ∷ body

-- the symbols of these frames, each in the room of the frame
pub data Within : Frame → List Symbol → Type 0 where
  some_brackets : Within frame.Brackets (part table.brackets ∷ [])
  a_superclass : Within frame.Superclass (part table.superclass ∷ [])
  some_names_behind : {word : TokenKind} → Within (frame.NamesBehind word) (part (table.names_behind word) ∷ [])
  no_argument : Within frame.Arguments (a token.RightParen ∷ [])
  arguments : Within frame.Arguments (part table.listed ∷ a token.RightParen ∷ [])
  last_argument : Within frame.MoreArguments (a token.RightParen ∷ [])
  next_argument : Within frame.MoreArguments (a token.Comma ∷ part table.listed ∷ a token.RightParen ∷ [])
  a_call : Within frame.OpenArguments (deep table.arguments ∷ [])
  no_value : Within frame.Values (a token.RightBrace ∷ [])
  values : Within frame.Values (part table.initials ∷ a token.RightBrace ∷ [])
  last_value : Within frame.MoreValues (a token.RightBrace ∷ [])
  last_comma : Within frame.MoreValues (a token.Comma ∷ a token.RightBrace ∷ [])
  next_value : Within frame.MoreValues (a token.Comma ∷ part table.initials ∷ a token.RightBrace ∷ [])
  statements : Within frame.Statements (part table.statements ∷ a token.RightBrace ∷ [])
  not_initialized : Within frame.Initialized []
  initialized : Within frame.Initialized (a token.Assign ∷ part table.initial ∷ [])
  returned : Within frame.Returned (part table.optional ∷ a token.Semicolon ∷ [])
  for_start : Within frame.ForStart (part table.for_start ∷ for_rest)
  each_typed : Within frame.ForStart (part table.type_use ∷ a token.Identifier ∷ each_rest)
  each_final : Within frame.ForStart (a token.Final ∷ part table.type_use ∷ a token.Identifier ∷ each_rest)
  each_inferred : Within frame.ForStart (a token.Var ∷ a token.Identifier ∷ each_rest)
  each_final_inferred : Within frame.ForStart (a token.Final ∷ a token.Var ∷ a token.Identifier ∷ each_rest)
  for_variable : Within frame.ForVariable (part table.variable ∷ for_rest)
  each_of_type : Within frame.ForVariable (part table.type_use ∷ a token.Identifier ∷ each_rest)
  each_of_var : Within frame.ForVariable (a token.Var ∷ a token.Identifier ∷ each_rest)
  for_inferred : Within frame.ForInferred (a token.Assign ∷ part table.expression ∷ for_rest)
  each_of_inferred : Within frame.ForInferred each_rest
  for_bare : Within frame.ForTyped for_rest
  for_initialized : Within frame.ForTyped (a token.Assign ∷ part table.initial ∷ for_rest)
  each_of_typed : Within frame.ForTyped each_rest
  for_condition : Within frame.ForCondition (part table.optional ∷ a token.Semicolon ∷ part table.update ∷ a token.RightParen ∷ [])
  for_update : Within frame.ForUpdate (part table.update ∷ a token.RightParen ∷ [])
  groups : Within frame.Groups (part table.groups ∷ a token.RightBrace ∷ [])
  group : Within frame.Group (part table.statements ∷ part table.groups ∷ a token.RightBrace ∷ [])
  positive_value : Within frame.CaseValue (any is_case_value ∷ a token.Colon ∷ [])
  negative_case : Within frame.CaseValue (a token.Minus ∷ any is_case_value ∷ a token.Colon ∷ [])
  negative_value : Within frame.NegativeValue (any is_case_value ∷ a token.Colon ∷ [])
  no_more_catches : Within frame.MoreCatches []
  more_catches : Within frame.MoreCatches (part table.catches ∷ [])
  catch_type : Within frame.CatchType (a token.Identifier ∷ [])
  final_catch_type : Within frame.CatchType (a token.Final ∷ a token.Identifier ∷ [])
  imported : Within frame.Import (part table.dotted ∷ a token.Semicolon ∷ [])
  static_imported : Within frame.Import (a token.Static ∷ part table.dotted ∷ a token.Semicolon ∷ [])
  last_dotted : Within frame.DottedName (a token.Identifier ∷ a token.Semicolon ∷ [])
  dotted_star : Within frame.DottedName (a token.Star ∷ a token.Semicolon ∷ [])
  next_dotted : Within frame.DottedName (a token.Identifier ∷ part table.more_dotted ∷ a token.Semicolon ∷ [])
  no_more_dotted : Within frame.MoreDotted (a token.Semicolon ∷ [])
  more_dotted : Within frame.MoreDotted (part table.more_dotted ∷ a token.Semicolon ∷ [])
  class_declared : Within frame.Declaration
      (part table.modifiers ∷ a token.Class ∷ a token.Identifier ∷ part table.superclass ∷ part (table.names_behind token.Implements) ∷ deep table.class_body ∷ [])
  interface_declared : Within frame.Declaration
      (part table.modifiers ∷ a token.Interface ∷ a token.Identifier ∷ part (table.names_behind token.Extends) ∷ deep table.interface_body ∷ [])
  method_declared : Within frame.Declaration (part table.modifiers ∷ part table.result ∷ a token.Identifier ∷ method_rest (deep table.block ∷ []))
  variable_declared : Within frame.Declaration (part table.modifiers ∷ part table.variable ∷ a token.Semicolon ∷ [])
  a_method : Within frame.MethodOrVariable (method_rest (deep table.block ∷ []))
  a_bare_variable : Within frame.MethodOrVariable (a token.Semicolon ∷ [])
  an_initialized_variable : Within frame.MethodOrVariable (a token.Assign ∷ part table.initial ∷ a token.Semicolon ∷ [])
  no_more_names : Within frame.MoreNames []
  more_names : Within frame.MoreNames (a token.Comma ∷ part table.names ∷ [])
  no_parameter : Within frame.ParametersInside (a token.RightParen ∷ [])
  parameters_inside : Within frame.ParametersInside (part table.parameters_listed ∷ a token.RightParen ∷ [])
  a_parameter : Within frame.Parameter (part table.parameters_listed ∷ a token.RightParen ∷ [])
  last_parameter : Within frame.MoreParameters (a token.RightParen ∷ [])
  next_parameter : Within frame.MoreParameters (a token.Comma ∷ part table.parameters_listed ∷ a token.RightParen ∷ [])
  members : Within frame.Members (part table.class_members ∷ a token.RightBrace ∷ [])
  member_bare_field : Within frame.ClassMember
      (part table.member_modifiers ∷ part table.type_use ∷ a token.Identifier ∷ a token.Semicolon ∷ part table.class_members ∷ a token.RightBrace ∷ [])
  member_field : Within frame.ClassMember
      (part table.member_modifiers ∷ part table.type_use ∷ a token.Identifier ∷ a token.Assign ∷ part table.initial ∷ a token.Semicolon
      ∷ part table.class_members ∷ a token.RightBrace ∷ [])
  member_abstract_method : Within frame.ClassMember
      (part table.member_modifiers ∷ part table.result ∷ a token.Identifier
      ∷ method_rest (a token.Semicolon ∷ part table.class_members ∷ a token.RightBrace ∷ []))
  member_method : Within frame.ClassMember
      (part table.member_modifiers ∷ part table.result ∷ a token.Identifier
      ∷ method_rest (deep table.block ∷ part table.class_members ∷ a token.RightBrace ∷ []))
  member_constructor : Within frame.ClassMember
      (part table.member_modifiers ∷ a token.Identifier
      ∷ method_rest (deep table.constructor_body ∷ part table.class_members ∷ a token.RightBrace ∷ []))
  named_bare_field : Within frame.NamedMember
      (part table.brackets ∷ a token.Identifier ∷ a token.Semicolon ∷ part table.class_members ∷ a token.RightBrace ∷ [])
  named_field : Within frame.NamedMember
      (part table.brackets ∷ a token.Identifier ∷ a token.Assign ∷ part table.initial ∷ a token.Semicolon ∷ part table.class_members ∷ a token.RightBrace ∷ [])
  named_abstract_method : Within frame.NamedMember
      (part table.brackets ∷ a token.Identifier ∷ method_rest (a token.Semicolon ∷ part table.class_members ∷ a token.RightBrace ∷ []))
  named_method : Within frame.NamedMember
      (part table.brackets ∷ a token.Identifier ∷ method_rest (deep table.block ∷ part table.class_members ∷ a token.RightBrace ∷ []))
  named_constructor : Within frame.NamedMember
      (method_rest (deep table.constructor_body ∷ part table.class_members ∷ a token.RightBrace ∷ []))
  a_bare_field : Within frame.FieldOrMethod (a token.Semicolon ∷ [])
  an_initialized_field : Within frame.FieldOrMethod (a token.Assign ∷ part table.initial ∷ a token.Semicolon ∷ [])
  an_abstract_method : Within frame.FieldOrMethod (method_rest (a token.Semicolon ∷ []))
  a_whole_method : Within frame.FieldOrMethod (method_rest (deep table.block ∷ []))
  no_method_body : Within frame.MethodBody (a token.Semicolon ∷ [])
  method_body : Within frame.MethodBody (deep table.block ∷ [])
  first_call : Within frame.FirstCall (part table.first_call ∷ part table.statements ∷ a token.RightBrace ∷ [])
  this_called : Within frame.ThisFirst (deep table.arguments ∷ a token.Semicolon ∷ part table.statements ∷ a token.RightBrace ∷ [])
  super_called : Within frame.SuperFirst (deep table.arguments ∷ a token.Semicolon ∷ part table.statements ∷ a token.RightBrace ∷ [])
  signatures : Within frame.Signatures (part table.interface_methods ∷ a token.RightBrace ∷ [])
  signature : Within frame.Signature
      (part table.interface_modifiers ∷ part table.result ∷ a token.Identifier ∷ method_rest (a token.Semicolon ∷ part table.interface_methods ∷ a token.RightBrace ∷ []))

-- what ends a statement that begins with an expression, and stands behind it in the production
pub data Ended : Frame → Context → List Symbol → Type 0 where
  by_semicolon : Ended frame.Named context.Effect (a token.Semicolon ∷ [])
  in_for : Ended frame.ForNamed context.Effect for_rest
  by_snippet : Ended frame.NamedSnippet context.Expression (a token.Semicolon ∷ [])

-- the same behind a bracket
pub data EndedPair : Frame → Context → List Symbol → Type 0 where
  pair_by_semicolon : EndedPair frame.NamedPair context.Effect (a token.Semicolon ∷ [])
  pair_in_for : EndedPair frame.ForPair context.Effect for_rest
  pair_by_snippet : EndedPair frame.NamedSnippetPair context.Expression (a token.Semicolon ∷ [])

-- what stands behind the name of a variable, or of a method, whose type's name begins it
pub data Declares : Frame → List Symbol → Type 0 where
  bare_local : Declares frame.Named (a token.Semicolon ∷ [])
  initialized_local : Declares frame.Named (a token.Assign ∷ part table.initial ∷ a token.Semicolon ∷ [])
  of_for : {ss : List Symbol} → Within frame.ForTyped ss → Declares frame.ForNamed ss
  of_snippet : {ss : List Symbol} → Within frame.MethodOrVariable ss → Declares frame.NamedSnippet ss

-- the same behind a bracket
pub data DeclaresPair : Frame → List Symbol → Type 0 where
  paired_local : {ss : List Symbol} → Declares frame.Named ss → DeclaresPair frame.NamedPair ss
  paired_for : {ss : List Symbol} → Declares frame.ForNamed ss → DeclaresPair frame.ForPair ss
  paired_snippet : {ss : List Symbol} → Declares frame.NamedSnippet ss → DeclaresPair frame.NamedSnippetPair ss

-- The stack of a frame in so much room, but for what stands behind it.
pub data Own : ℕ → Frame → Stack → Type 0 where
  expected : {room : ℕ} {k : TokenKind} → Own room (frame.Expect k) ((room, a k) ∷ [])
  a_part : {room : ℕ} {f : Frame} {n : Part} → IsPartOf f n → Own room f ((room, part n) ∷ [])
  within : {room : ℕ} {f : Frame} {ss : List Symbol} → Within f ss → Own room f (in_room room ss)
  operators : {room : ℕ} {stack : Stack} → Tail room 9 stack → Own room (frame.Operators false) stack
  operators_behind_type : {room : ℕ} {stack : Stack} → Tail room 6 stack → Own room (frame.Operators true) stack
  path : {room : ℕ} {c : Context} {e : Ending} {stack : Stack} → Paths room c e stack → Own room (frame.Path c e) stack
  a_member : {room : ℕ} {c : Context} {stack : Stack} → Paths room c ending.Name stack → Own room (frame.Member c) ((room, a token.Identifier) ∷ stack)
  opened : {room : ℕ} {c : Context} {stack : Stack} → may_cast c ≡ true → Opens room c stack → Own room (frame.Opened c) stack
  opened_name : {room : ℕ} {c : Context} {stack : Stack} → may_cast c ≡ true → OpensNamed room c stack → Own room (frame.OpenedName c) stack
  opened_pair : {room : ℕ} {c : Context} {stack : Stack} → may_cast c ≡ true → OpensPair room c stack → Own room (frame.OpenedPair c) stack
  cast_type : {room : ℕ} {primitive : Bool} {c : Context} {stack : Stack} → Casts room primitive c stack → Own room (frame.CastType primitive c) stack
  enclosed : {room : ℕ} {c : Context} {stack : Stack} → may_cast c ≡ true → More room c ending.Other stack → Own room (frame.Enclosed c) stack
  enclosed_cast : {room : ℕ} {c : Context} {stack : Stack} → Behind room c stack → Own room (frame.Enclosed c) ((room, deep table.unsigned) ∷ stack)
  new_object : {room : ℕ} {c : Context} {stack : Stack} → More room c ending.Call stack →
      Own room (frame.New c) ((room, a token.Identifier) ∷ (room, deep table.arguments) ∷ stack)
  new_array : {room : ℕ} {c : Context} {stack : Stack} → Created room c stack → Own room (frame.New c) ((room, any is_type_name) ∷ stack)
  new_named_object : {room : ℕ} {c : Context} {stack : Stack} → More room c ending.Call stack → Own room (frame.NewNamed c) ((room, deep table.arguments) ∷ stack)
  new_named_array : {room : ℕ} {c : Context} {stack : Stack} → Created room c stack → Own room (frame.NewNamed c) stack
  new_primitive_array : {room : ℕ} {c : Context} {stack : Stack} → Created room c stack → Own room (frame.NewPrimitive c) stack
  new_size : {room : ℕ} {c : Context} {rest stack : Stack} → Sizes room c rest → Indexed room rest stack → Own room (frame.NewOpened c) stack
  new_values : {room : ℕ} {c : Context} {stack : Stack} → More room c ending.Other stack →
      Own room (frame.NewOpened c) (in_room room (a token.RightBracket ∷ part table.brackets ∷ deep table.braces ∷ []) ++ stack)
  new_filled : {room : ℕ} {c : Context} {stack : Stack} → More room c ending.Other stack →
      Own room (frame.NewFilled c) (in_room room (part table.brackets ∷ deep table.braces ∷ []) ++ stack)
  new_sized : {room : ℕ} {c : Context} {stack : Stack} → Sizes room c stack → Own room (frame.NewSized c) stack
  next_size : {room : ℕ} {c : Context} {rest stack : Stack} → Sizes room c rest → Indexed room rest stack → Own room (frame.NewSizedOpened c) stack
  closing_pair : {room : ℕ} {c : Context} {stack : Stack} → More room c ending.Other stack →
      Own room (frame.NewSizedOpened c) (in_room room (a token.RightBracket ∷ part table.brackets ∷ []) ++ stack)
  new_unsized : {room : ℕ} {c : Context} {stack : Stack} → More room c ending.Other stack → Own room (frame.NewUnsized c) ((room, part table.brackets) ∷ stack)
  unsized_pair : {room : ℕ} {c : Context} {stack : Stack} → More room c ending.Other stack →
      Own room (frame.NewUnsizedOpened c) (in_room room (a token.RightBracket ∷ part table.brackets ∷ []) ++ stack)
  unsized_index : {room : ℕ} {c : Context} {rest stack : Stack} → More room c ending.Place rest → Indexed room rest stack → Own room (frame.NewUnsizedOpened c) stack
  named_type : {room : ℕ} {f : Frame} {ss : List Symbol} → Declares f ss → Own room f (in_room room (part table.brackets ∷ a token.Identifier ∷ ss))
  named_effect : {room : ℕ} {f : Frame} {c : Context} {ss : List Symbol} {stack : Stack} → Ended f c ss → Paths room c ending.Name stack →
      Own room f (stack ++ in_room room ss)
  pair_of_type : {room : ℕ} {f : Frame} {ss : List Symbol} → DeclaresPair f ss →
      Own room f (in_room room (a token.RightBracket ∷ part table.brackets ∷ a token.Identifier ∷ ss))
  pair_of_index : {room : ℕ} {f : Frame} {c : Context} {ss : List Symbol} {rest stack : Stack} → EndedPair f c ss → More room c ending.Place rest →
      Indexed room (rest ++ in_room room ss) stack → Own room f stack
  this_effect : {room : ℕ} {stack : Stack} → More room context.Effect ending.Other stack →
      Own room frame.ThisFirst (stack ++ in_room room (a token.Semicolon ∷ part table.statements ∷ a token.RightBrace ∷ []))
  super_effect : {room : ℕ} {stack : Stack} → More room context.Effect ending.Call stack →
      Own room frame.SuperFirst
      (in_room room (a token.Dot ∷ a token.Identifier ∷ deep table.arguments ∷ [])
      ++ (stack ++ in_room room (a token.Semicolon ∷ part table.statements ∷ a token.RightBrace ∷ [])))

-- a statement, and whether it has to be closed
abbrev pub statement_part : Bool → Part
statement_part true = table.closed_statement
statement_part false = table.statement

-- What frames stand for. The flag says whether a statement right in front of them has to be closed: one that an `else` follows has.
pub data Means (limit : ℕ) : Bool → Frames → Stack → Type 0 where
  nothing : Means limit false [] []
  a_frame : {closed : Bool} {depth room : ℕ} {f : Frame} {fs : Frames} {own stack : Stack} → depth + room ≡ limit → Own room f own →
      Means limit closed fs stack → Means limit false ((depth, f) ∷ fs) (own ++ stack)
  a_deep_frame : {closed : Bool} {depth room : ℕ} {f : Frame} {n : Part} {fs : Frames} {stack : Stack} → depth + room ≡ limit → IsPartOf f n →
      Means limit closed fs stack → Means limit false ((suc depth, f) ∷ fs) ((room, deep n) ∷ stack)
  a_statement : {closed : Bool} {depth room : ℕ} {fs : Frames} {stack : Stack} → depth + room ≡ limit →
      Means limit closed fs stack → Means limit false ((depth, frame.Statement) ∷ fs) ((room, part (statement_part closed)) ∷ stack)
  a_deep_statement : {closed : Bool} {depth room : ℕ} {fs : Frames} {stack : Stack} → depth + room ≡ limit →
      Means limit closed fs stack → Means limit false ((suc depth, frame.Statement) ∷ fs) ((room, deep (statement_part closed)) ∷ stack)
  no_else : {depth : ℕ} {fs : Frames} {stack : Stack} → Means limit false fs stack → Means limit false ((depth, frame.Else) ∷ fs) stack
  an_else : {closed : Bool} {depth room : ℕ} {fs : Frames} {stack : Stack} → depth + room ≡ limit → Means limit closed fs stack →
      Means limit true ((depth, frame.Else) ∷ fs) (in_room room (a token.Else ∷ deep (statement_part closed) ∷ []) ++ stack)
