-- The grammar as a table (JLS 19): a line for each production. It has no trees: of a token it knows the kind.
use Rattle.std.specs.Prelude.{ℕ, suc, ◌<◌, Bool, List, [], ◌∷◌}
use Rattle.jsh_tree.specs.declared.token.TokenKind.{TokenKind}
use Rattle.jsh_tree.specs.declared.token.TokenKind.TheVariants as token
use Rattle.jsh_grammar.specs.Classes.{is_literal, is_primitive, is_type_name, is_assignment, is_operator, is_prefix, is_negation, is_step, is_case_value, is_modifier, is_member_modifier, is_interface_modifier}

-- what a production may be of
pub data Part : Type 0 where
  -- expressions
  expression : Part
  conditional : Part
  level : ℕ → Part
  operations : ℕ → Part
  unary : Part
  unsigned : Part
  primitive_cast : Part
  named_cast : Part
  postfix : Part
  path : Part
  target : Part
  members : Part
  place : Part
  primary : Part
  open_creation : Part
  selected : Part
  unindexed : Part
  parenthesized : Part
  arguments : Part
  listed : Part
  index : Part
  sizes : Part
  brackets : Part
  braces : Part
  initials : Part
  initial : Part
  type_use : Part
  -- statements
  statement : Part
  closed_statement : Part
  statement_expression : Part
  block : Part
  statements : Part
  block_statement : Part
  variable : Part
  for_head : Part
  for_start : Part
  optional : Part
  update : Part
  each_head : Part
  switch_block : Part
  groups : Part
  labels : Part
  label : Part
  catches : Part
  -- declarations
  snippet : Part
  dotted : Part
  more_dotted : Part
  modifiers : Part
  member_modifiers : Part
  interface_modifiers : Part
  class_body : Part
  interface_body : Part
  class_members : Part
  interface_methods : Part
  names : Part
  superclass : Part
  names_behind : TokenKind → Part
  result : Part
  parameters : Part
  parameters_listed : Part
  parameter : Part
  constructor_body : Part
  first_call : Part

-- A symbol of a production: a token of a kind, one of a class, or a part. What is deep is one deeper than what it stands in.
pub data Symbol : Type 0 where
  a : TokenKind → Symbol
  any : (TokenKind → Bool) → Symbol
  part : Part → Symbol
  deep : Part → Symbol

-- the level of the comparisons, which `instanceof` has too
abbrev pub comparisons : ℕ
comparisons = 6

-- the level behind those of all operators between two operands
abbrev pub operands : ℕ
operands = 10

-- The productions. An optional part gives two of them, and a repeated one has a part of its own.
pub data IsProduction : Part → List Symbol → Type 0 where
  -- Expr
  of_conditional : IsProduction expression (part conditional ∷ [])
  of_assignment : IsProduction expression (part target ∷ any is_assignment ∷ deep expression ∷ [])
  -- Cond
  of_operators : IsProduction conditional (part (level 0) ∷ [])
  of_choice : IsProduction conditional (part (level 0) ∷ a token.Question ∷ deep expression ∷ a token.Colon ∷ deep conditional ∷ [])
  -- Or .. Mul
  of_level : {n : ℕ} → n < operands → IsProduction (level n) (part (level (suc n)) ∷ part (operations n) ∷ [])
  of_operand : IsProduction (level operands) (part unary ∷ [])
  no_operation : {n : ℕ} → IsProduction (operations n) []
  of_operation : {n : ℕ} → n < operands → IsProduction (operations n) (any (is_operator n) ∷ part (level (suc n)) ∷ part (operations n) ∷ [])
  of_instanceof : IsProduction (operations comparisons) (a token.Instanceof ∷ part type_use ∷ part (operations comparisons) ∷ [])
  -- Unary
  of_prefix : IsProduction unary (any is_prefix ∷ deep unary ∷ [])
  of_step : IsProduction unary (any is_step ∷ deep target ∷ [])
  of_primitive_cast : IsProduction unary (deep primitive_cast ∷ deep unary ∷ [])
  of_named_cast : IsProduction unary (deep named_cast ∷ deep unsigned ∷ [])
  of_postfix : IsProduction unary (part postfix ∷ [])
  -- a Unary that doesn't begin with + - ++ --
  of_negation : IsProduction unsigned (any is_negation ∷ deep unary ∷ [])
  of_unsigned_primitive_cast : IsProduction unsigned (deep primitive_cast ∷ deep unary ∷ [])
  of_unsigned_named_cast : IsProduction unsigned (deep named_cast ∷ deep unsigned ∷ [])
  of_unsigned_postfix : IsProduction unsigned (part postfix ∷ [])
  of_primitive : IsProduction primitive_cast (a token.LeftParen ∷ any is_primitive ∷ part brackets ∷ a token.RightParen ∷ [])
  of_named : IsProduction named_cast (a token.LeftParen ∷ a token.Identifier ∷ part brackets ∷ a token.RightParen ∷ [])
  -- Postfix
  of_path : IsProduction postfix (part path ∷ [])
  of_stepped : IsProduction postfix (part target ∷ any is_step ∷ [])
  of_members : IsProduction path (part primary ∷ part members ∷ [])
  of_created : IsProduction path (part open_creation ∷ part unindexed ∷ [])
  no_member : IsProduction members []
  of_place : IsProduction members (part place ∷ part members ∷ [])
  of_call : IsProduction members (a token.Dot ∷ a token.Identifier ∷ deep arguments ∷ part members ∷ [])
  of_field : IsProduction place (a token.Dot ∷ a token.Identifier ∷ [])
  of_element : IsProduction place (deep index ∷ [])
  of_index : IsProduction index (a token.LeftBracket ∷ part expression ∷ a token.RightBracket ∷ [])
  -- Target: a name, a field access or an element
  of_name_target : IsProduction target (a token.Identifier ∷ [])
  of_place_target : IsProduction target (part primary ∷ part members ∷ part place ∷ [])
  of_created_field : IsProduction target (part open_creation ∷ a token.Dot ∷ a token.Identifier ∷ [])
  of_created_place : IsProduction target (part open_creation ∷ part selected ∷ part place ∷ [])
  -- Primary
  of_literal : IsProduction primary (any is_literal ∷ [])
  of_this : IsProduction primary (a token.This ∷ [])
  of_parenthesized : IsProduction primary (deep parenthesized ∷ [])
  of_name : IsProduction primary (a token.Identifier ∷ [])
  of_simple_call : IsProduction primary (a token.Identifier ∷ deep arguments ∷ [])
  of_super_call : IsProduction primary (a token.Super ∷ a token.Dot ∷ a token.Identifier ∷ deep arguments ∷ [])
  of_new_object : IsProduction primary (a token.New ∷ a token.Identifier ∷ deep arguments ∷ [])
  of_new_array : IsProduction primary
      (a token.New ∷ any is_type_name ∷ part sizes ∷ a token.LeftBracket ∷ a token.RightBracket ∷ part brackets ∷ [])
  of_filled_array : IsProduction primary
      (a token.New ∷ any is_type_name ∷ a token.LeftBracket ∷ a token.RightBracket ∷ part brackets ∷ deep braces ∷ [])
  -- The creation of an array whose last brackets have a size in them: it takes all brackets that it can (JLS 15.10.1).
  of_open_creation : IsProduction open_creation (a token.New ∷ any is_type_name ∷ part sizes ∷ [])
  no_unindexed : IsProduction unindexed []
  of_selected : IsProduction unindexed (part selected ∷ [])
  of_selected_field : IsProduction selected (a token.Dot ∷ a token.Identifier ∷ part members ∷ [])
  of_selected_call : IsProduction selected (a token.Dot ∷ a token.Identifier ∷ deep arguments ∷ part members ∷ [])
  in_parentheses : IsProduction parenthesized (a token.LeftParen ∷ part expression ∷ a token.RightParen ∷ [])
  last_size : IsProduction sizes (deep index ∷ [])
  more_sizes : IsProduction sizes (deep index ∷ part sizes ∷ [])
  no_brackets : IsProduction brackets []
  more_brackets : IsProduction brackets (a token.LeftBracket ∷ a token.RightBracket ∷ part brackets ∷ [])
  -- Args
  no_arguments : IsProduction arguments (a token.LeftParen ∷ a token.RightParen ∷ [])
  some_arguments : IsProduction arguments (a token.LeftParen ∷ part listed ∷ a token.RightParen ∷ [])
  last_argument : IsProduction listed (part expression ∷ [])
  more_arguments : IsProduction listed (part expression ∷ a token.Comma ∷ part listed ∷ [])
  -- ArrayInit, VarInit
  no_values : IsProduction braces (a token.LeftBrace ∷ a token.RightBrace ∷ [])
  some_values : IsProduction braces (a token.LeftBrace ∷ part initials ∷ a token.RightBrace ∷ [])
  last_value : IsProduction initials (part initial ∷ [])
  last_value_with_comma : IsProduction initials (part initial ∷ a token.Comma ∷ [])
  more_values : IsProduction initials (part initial ∷ a token.Comma ∷ part initials ∷ [])
  of_value : IsProduction initial (part expression ∷ [])
  of_values : IsProduction initial (deep braces ∷ [])
  -- Type
  of_type : IsProduction type_use (any is_type_name ∷ part brackets ∷ [])
  -- Stmt. An `else` belongs to the nearest `if`: what stands between `if` and `else` is closed, and ends in no `if` without `else` (JLS 14.5).
  of_closed : IsProduction statement (part closed_statement ∷ [])
  of_if : IsProduction statement (a token.If ∷ deep parenthesized ∷ deep statement ∷ [])
  of_if_else : IsProduction statement (a token.If ∷ deep parenthesized ∷ deep closed_statement ∷ a token.Else ∷ deep statement ∷ [])
  of_while : IsProduction statement (a token.While ∷ deep parenthesized ∷ deep statement ∷ [])
  of_for : IsProduction statement (a token.For ∷ deep for_head ∷ deep statement ∷ [])
  of_for_each : IsProduction statement (a token.For ∷ deep each_head ∷ deep statement ∷ [])
  of_block : IsProduction closed_statement (deep block ∷ [])
  of_nothing : IsProduction closed_statement (a token.Semicolon ∷ [])
  of_expression : IsProduction closed_statement (part statement_expression ∷ a token.Semicolon ∷ [])
  of_closed_if_else : IsProduction closed_statement
      (a token.If ∷ deep parenthesized ∷ deep closed_statement ∷ a token.Else ∷ deep closed_statement ∷ [])
  of_closed_while : IsProduction closed_statement (a token.While ∷ deep parenthesized ∷ deep closed_statement ∷ [])
  of_do : IsProduction closed_statement (a token.Do ∷ deep statement ∷ a token.While ∷ deep parenthesized ∷ a token.Semicolon ∷ [])
  of_closed_for : IsProduction closed_statement (a token.For ∷ deep for_head ∷ deep closed_statement ∷ [])
  of_closed_for_each : IsProduction closed_statement (a token.For ∷ deep each_head ∷ deep closed_statement ∷ [])
  of_switch : IsProduction closed_statement (a token.Switch ∷ deep parenthesized ∷ deep switch_block ∷ [])
  of_break : IsProduction closed_statement (a token.Break ∷ a token.Semicolon ∷ [])
  of_continue : IsProduction closed_statement (a token.Continue ∷ a token.Semicolon ∷ [])
  of_return : IsProduction closed_statement (a token.Return ∷ part optional ∷ a token.Semicolon ∷ [])
  of_throw : IsProduction closed_statement (a token.Throw ∷ part expression ∷ a token.Semicolon ∷ [])
  of_try : IsProduction closed_statement (a token.Try ∷ deep block ∷ part catches ∷ [])
  -- StmtExpr: an assignment, a ++ or --, a call or a new object
  of_assignment_statement : IsProduction statement_expression (part target ∷ any is_assignment ∷ deep expression ∷ [])
  of_step_statement : IsProduction statement_expression (any is_step ∷ deep target ∷ [])
  of_stepped_statement : IsProduction statement_expression (part target ∷ any is_step ∷ [])
  of_simple_call_statement : IsProduction statement_expression (a token.Identifier ∷ deep arguments ∷ [])
  of_super_call_statement : IsProduction statement_expression (a token.Super ∷ a token.Dot ∷ a token.Identifier ∷ deep arguments ∷ [])
  of_call_statement : IsProduction statement_expression
      (part primary ∷ part members ∷ a token.Dot ∷ a token.Identifier ∷ deep arguments ∷ [])
  of_created_call_statement : IsProduction statement_expression (part open_creation ∷ a token.Dot ∷ a token.Identifier ∷ deep arguments ∷ [])
  of_selected_call_statement : IsProduction statement_expression
      (part open_creation ∷ part selected ∷ a token.Dot ∷ a token.Identifier ∷ deep arguments ∷ [])
  of_new_statement : IsProduction statement_expression (a token.New ∷ a token.Identifier ∷ deep arguments ∷ [])
  -- Block
  of_statements : IsProduction block (a token.LeftBrace ∷ part statements ∷ a token.RightBrace ∷ [])
  no_statements : IsProduction statements []
  one_more_statement : IsProduction statements (part block_statement ∷ part statements ∷ [])
  of_local : IsProduction block_statement (part variable ∷ a token.Semicolon ∷ [])
  of_final_local : IsProduction block_statement (a token.Final ∷ part variable ∷ a token.Semicolon ∷ [])
  of_statement : IsProduction block_statement (part statement ∷ [])
  -- Var
  of_inferred : IsProduction variable (a token.Var ∷ a token.Identifier ∷ a token.Assign ∷ part expression ∷ [])
  of_bare : IsProduction variable (part type_use ∷ a token.Identifier ∷ [])
  of_initialized : IsProduction variable (part type_use ∷ a token.Identifier ∷ a token.Assign ∷ part initial ∷ [])
  -- what stands between the parentheses of a `for`
  of_for_parts : IsProduction for_head
      (a token.LeftParen ∷ part for_start ∷ a token.Semicolon ∷ part optional ∷ a token.Semicolon ∷ part update ∷ a token.RightParen ∷ [])
  no_start : IsProduction for_start []
  of_local_start : IsProduction for_start (part variable ∷ [])
  of_final_start : IsProduction for_start (a token.Final ∷ part variable ∷ [])
  of_expression_start : IsProduction for_start (part statement_expression ∷ [])
  not_there : IsProduction optional []
  there : IsProduction optional (part expression ∷ [])
  no_update : IsProduction update []
  of_update : IsProduction update (part statement_expression ∷ [])
  of_each : IsProduction each_head
      (a token.LeftParen ∷ part type_use ∷ a token.Identifier ∷ a token.Colon ∷ part expression ∷ a token.RightParen ∷ [])
  of_final_each : IsProduction each_head
      (a token.LeftParen ∷ a token.Final ∷ part type_use ∷ a token.Identifier ∷ a token.Colon ∷ part expression ∷ a token.RightParen ∷ [])
  of_inferred_each : IsProduction each_head
      (a token.LeftParen ∷ a token.Var ∷ a token.Identifier ∷ a token.Colon ∷ part expression ∷ a token.RightParen ∷ [])
  of_final_inferred_each : IsProduction each_head
      (a token.LeftParen ∷ a token.Final ∷ a token.Var ∷ a token.Identifier ∷ a token.Colon ∷ part expression ∷ a token.RightParen ∷ [])
  -- {Label {Label} {BlockStmt}}. Labels with nothing between them are of one group: only the last has no statements.
  of_groups : IsProduction switch_block (a token.LeftBrace ∷ part groups ∷ a token.RightBrace ∷ [])
  no_groups : IsProduction groups []
  last_group : IsProduction groups (part labels ∷ [])
  one_more_group : IsProduction groups (part labels ∷ part block_statement ∷ part statements ∷ part groups ∷ [])
  last_label : IsProduction labels (part label ∷ [])
  one_more_label : IsProduction labels (part label ∷ part labels ∷ [])
  of_case : IsProduction label (a token.Case ∷ any is_case_value ∷ a token.Colon ∷ [])
  of_negative_case : IsProduction label (a token.Case ∷ a token.Minus ∷ any is_case_value ∷ a token.Colon ∷ [])
  of_default : IsProduction label (a token.Default ∷ a token.Colon ∷ [])
  -- Catch {Catch}
  last_catch : IsProduction catches
      (a token.Catch ∷ a token.LeftParen ∷ a token.Identifier ∷ a token.Identifier ∷ a token.RightParen ∷ deep block ∷ [])
  last_final_catch : IsProduction catches
      (a token.Catch ∷ a token.LeftParen ∷ a token.Final ∷ a token.Identifier ∷ a token.Identifier ∷ a token.RightParen ∷ deep block ∷ [])
  one_more_catch : IsProduction catches
      (a token.Catch ∷ a token.LeftParen ∷ a token.Identifier ∷ a token.Identifier ∷ a token.RightParen ∷ deep block ∷ part catches ∷ [])
  one_more_final_catch : IsProduction catches
      (a token.Catch ∷ a token.LeftParen ∷ a token.Final ∷ a token.Identifier ∷ a token.Identifier ∷ a token.RightParen ∷ deep block ∷ part catches ∷ [])
  -- Snippet
  of_import : IsProduction snippet (a token.Import ∷ part dotted ∷ a token.Semicolon ∷ [])
  of_static_import : IsProduction snippet (a token.Import ∷ a token.Static ∷ part dotted ∷ a token.Semicolon ∷ [])
  of_class : IsProduction snippet
      (part modifiers ∷ a token.Class ∷ a token.Identifier ∷ part superclass ∷ part (names_behind token.Implements) ∷ deep class_body ∷ [])
  of_interface : IsProduction snippet
      (part modifiers ∷ a token.Interface ∷ a token.Identifier ∷ part (names_behind token.Extends) ∷ deep interface_body ∷ [])
  of_method : IsProduction snippet
      (part modifiers ∷ part result ∷ a token.Identifier ∷ part parameters ∷ part (names_behind token.Throws) ∷ deep block ∷ [])
  of_variable : IsProduction snippet (part modifiers ∷ part variable ∷ a token.Semicolon ∷ [])
  of_statement_snippet : IsProduction snippet (part statement ∷ [])
  of_expression_snippet : IsProduction snippet (part expression ∷ a token.Semicolon ∷ [])
  -- Ident "." Ident {"." Ident} ["." "*"] | Ident "." "*"
  of_dotted : IsProduction dotted (a token.Identifier ∷ part more_dotted ∷ [])
  last_name : IsProduction more_dotted (a token.Dot ∷ a token.Identifier ∷ [])
  last_star : IsProduction more_dotted (a token.Dot ∷ a token.Star ∷ [])
  one_more_name : IsProduction more_dotted (a token.Dot ∷ a token.Identifier ∷ part more_dotted ∷ [])
  -- {Modifier}
  no_modifier : IsProduction modifiers []
  one_more_modifier : IsProduction modifiers (any is_modifier ∷ part modifiers ∷ [])
  no_member_modifier : IsProduction member_modifiers []
  one_more_member_modifier : IsProduction member_modifiers (any is_member_modifier ∷ part member_modifiers ∷ [])
  no_interface_modifier : IsProduction interface_modifiers []
  one_more_interface_modifier : IsProduction interface_modifiers (any is_interface_modifier ∷ part interface_modifiers ∷ [])
  -- the heads of types
  no_superclass : IsProduction superclass []
  of_superclass : IsProduction superclass (a token.Extends ∷ a token.Identifier ∷ [])
  no_names : {word : TokenKind} → IsProduction (names_behind word) []
  some_names : {word : TokenKind} → IsProduction (names_behind word) (a word ∷ part names ∷ [])
  last_listed_name : IsProduction names (a token.Identifier ∷ [])
  one_more_listed_name : IsProduction names (a token.Identifier ∷ a token.Comma ∷ part names ∷ [])
  -- Result, Params
  of_void : IsProduction result (a token.Void ∷ [])
  of_result : IsProduction result (part type_use ∷ [])
  no_parameters : IsProduction parameters (a token.LeftParen ∷ a token.RightParen ∷ [])
  some_parameters : IsProduction parameters (a token.LeftParen ∷ part parameters_listed ∷ a token.RightParen ∷ [])
  last_parameter : IsProduction parameters_listed (part parameter ∷ [])
  one_more_parameter : IsProduction parameters_listed (part parameter ∷ a token.Comma ∷ part parameters_listed ∷ [])
  of_parameter : IsProduction parameter (part type_use ∷ a token.Identifier ∷ [])
  of_final_parameter : IsProduction parameter (a token.Final ∷ part type_use ∷ a token.Identifier ∷ [])
  -- {Member}
  of_class_body : IsProduction class_body (a token.LeftBrace ∷ part class_members ∷ a token.RightBrace ∷ [])
  no_class_member : IsProduction class_members []
  one_more_semicolon : IsProduction class_members (a token.Semicolon ∷ part class_members ∷ [])
  one_more_bare_field : IsProduction class_members
      (part member_modifiers ∷ part type_use ∷ a token.Identifier ∷ a token.Semicolon ∷ part class_members ∷ [])
  one_more_field : IsProduction class_members
      (part member_modifiers ∷ part type_use ∷ a token.Identifier ∷ a token.Assign ∷ part initial ∷ a token.Semicolon ∷ part class_members ∷ [])
  one_more_abstract_method : IsProduction class_members
      (part member_modifiers ∷ part result ∷ a token.Identifier ∷ part parameters ∷ part (names_behind token.Throws) ∷ a token.Semicolon
      ∷ part class_members ∷ [])
  one_more_method : IsProduction class_members
      (part member_modifiers ∷ part result ∷ a token.Identifier ∷ part parameters ∷ part (names_behind token.Throws) ∷ deep block
      ∷ part class_members ∷ [])
  one_more_constructor : IsProduction class_members
      (part member_modifiers ∷ a token.Identifier ∷ part parameters ∷ part (names_behind token.Throws) ∷ deep constructor_body
      ∷ part class_members ∷ [])
  of_constructor_body : IsProduction constructor_body (a token.LeftBrace ∷ part first_call ∷ part statements ∷ a token.RightBrace ∷ [])
  no_first_call : IsProduction first_call []
  of_this_call : IsProduction first_call (a token.This ∷ deep arguments ∷ a token.Semicolon ∷ [])
  of_super_first_call : IsProduction first_call (a token.Super ∷ deep arguments ∷ a token.Semicolon ∷ [])
  -- the methods of an interface
  of_interface_body : IsProduction interface_body (a token.LeftBrace ∷ part interface_methods ∷ a token.RightBrace ∷ [])
  no_interface_method : IsProduction interface_methods []
  one_more_interface_method : IsProduction interface_methods
      (part interface_modifiers ∷ part result ∷ a token.Identifier ∷ part parameters ∷ part (names_behind token.Throws) ∷ a token.Semicolon
      ∷ part interface_methods ∷ [])
