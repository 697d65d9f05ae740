-- Each part derives some list that isn't empty, in some room.
use Rattle.std.proofs.Common.{◌≡◌, ℕ, zero, suc, ◌+◌, ◌-◌, ◌<◌, ◌≤◌, Bool, true, List, [], ◌∷◌, ◌++◌, refl, sym, subst, arith, ◌∙◌, add-zero}
use Rattle.jsh_tree.specs.declared.token.TokenKind.{TokenKind}
use Rattle.jsh_tree.specs.declared.token.TokenKind.TheVariants as token
use Rattle.jsh_grammar.specs.Productions as grammar
use Rattle.jsh_grammar.specs.Productions.{Part, Symbol, a, any, part, deep, IsProduction, operands, comparisons}
use Rattle.jsh_grammar.specs.Fronts.{Derives, nothing, token_of, token_among, whole_part, whole_deep}
use Rattle.jsh_grammar.proofs.Derived.{grows}
use Rattle.jsh_grammar.proofs.Usable.{IsProductive, operator}

-- the symbols derive a list, in some room
abbrev pub Derivable : List Symbol → Type 0
Derivable ss = (room : ℕ) × (ks : List TokenKind) × Derives room ss ks

-- they derive one that isn't empty
abbrev pub DerivesSome : List Symbol → Type 0
DerivesSome ss = (room : ℕ) × (k : TokenKind) × (ks : List TokenKind) × Derives room ss (k ∷ ks)

-- a production of the part derives one that isn't empty
abbrev pub YieldsSome : Part → Type 0
YieldsSome n = (p : List Symbol) × IsProduction n p × DerivesSome p

-- ---- symbols one behind another

-- no symbols
pub none : Derivable []
none = (0, [], nothing)

-- what derives a list that isn't empty, to stand behind others
pub next : {ss : List Symbol} → DerivesSome ss → Derivable ss
next f = (f.0, f.1 ∷ f.2, f.3)

-- a token of the kind first
pub put : (k : TokenKind) {ss : List Symbol} → Derivable ss → DerivesSome (a k ∷ ss)
put k c = (c.0, k, c.1, token_of c.2)

-- a token of the class first
pub put_any : {test : TokenKind → Bool} (k : TokenKind) {ss : List Symbol} → test k ≡ true → Derivable ss → DerivesSome (any test ∷ ss)
put_any k is c = (c.0, k, c.1, token_among is c.2)

-- a part first
pub put_part : {n : Part} {ss : List Symbol} → YieldsSome n → Derivable ss → DerivesSome (part n ∷ ss)
put_part g c = let f = g.2 in
    (f.0 + c.0, f.1, f.2 ++ c.1, whole_part g.1 (grows f.3 (f.0 + c.0) (omega arith)) (grows c.2 (f.0 + c.0) (omega arith)))

-- a deep part first
pub put_deep : {n : Part} {ss : List Symbol} → YieldsSome n → Derivable ss → DerivesSome (deep n ∷ ss)
put_deep g c = let f = g.2 in
    (suc (f.0 + c.0), f.1, f.2 ++ c.1, whole_deep g.1 (grows f.3 (f.0 + c.0) (omega arith)) (grows c.2 (suc (f.0 + c.0)) (omega arith)))

-- a part first that derives nothing
pub pass : {n : Part} {ss : List Symbol} → IsProduction n [] → Derivable ss → Derivable (part n ∷ ss)
pass is c = (c.0, c.1, whole_part is nothing c.2)

-- ---- expressions

primary : YieldsSome grammar.primary
primary = (_, grammar.of_name, put token.Identifier none)

place : YieldsSome grammar.place
place = (_, grammar.of_field, put token.Dot (next (put token.Identifier none)))

members : YieldsSome grammar.members
members = (_, grammar.of_place, put_part place (pass grammar.no_member none))

path : YieldsSome grammar.path
path = (_, grammar.of_members, put_part primary (pass grammar.no_member none))

target : YieldsSome grammar.target
target = (_, grammar.of_name_target, put token.Identifier none)

postfix : YieldsSome grammar.postfix
postfix = (_, grammar.of_path, put_part path none)

unary : YieldsSome grammar.unary
unary = (_, grammar.of_postfix, put_part postfix none)

unsigned : YieldsSome grammar.unsigned
unsigned = (_, grammar.of_unsigned_postfix, put_part postfix none)

-- a level, which so many others stand behind
level_above : (others n : ℕ) → n + others ≡ operands → YieldsSome (grammar.level n)
level_above zero n e = subst (λ m. YieldsSome (grammar.level m)) (sym (sym (add-zero n) ∙ e)) (_, grammar.of_operand, put_part unary none)
level_above (suc others) n e = (_, grammar.of_level (omega arith), put_part (level_above others (suc n) (omega arith)) (pass grammar.no_operation none))

level : (n : ℕ) → n ≤ operands → YieldsSome (grammar.level n)
level n le = level_above (operands - n) n (omega arith)

operations : (n : ℕ) → n < operands → YieldsSome (grammar.operations n)
operations n less = let op = operator n less in
    (_, grammar.of_operation less, put_any op.0 op.1 (next (put_part (level (suc n) less) (pass grammar.no_operation none))))

conditional : YieldsSome grammar.conditional
conditional = (_, grammar.of_operators, put_part (level 0 (omega arith)) none)

expression : YieldsSome grammar.expression
expression = (_, grammar.of_conditional, put_part conditional none)

index : YieldsSome grammar.index
index = (_, grammar.of_index, put token.LeftBracket (next (put_part expression (next (put token.RightBracket none)))))

sizes : YieldsSome grammar.sizes
sizes = (_, grammar.last_size, put_deep index none)

selected : YieldsSome grammar.selected
selected = (_, grammar.of_selected_field, put token.Dot (next (put token.Identifier (pass grammar.no_member none))))

initial : YieldsSome grammar.initial
initial = (_, grammar.of_value, put_part expression none)

type_use : YieldsSome grammar.type_use
type_use = (_, grammar.of_type, put_any token.Int refl (pass grammar.no_brackets none))

arguments : YieldsSome grammar.arguments
arguments = (_, grammar.no_arguments, put token.LeftParen (next (put token.RightParen none)))

-- ---- statements

parenthesized : YieldsSome grammar.parenthesized
parenthesized = (_, grammar.in_parentheses, put token.LeftParen (next (put_part expression (next (put token.RightParen none)))))

closed_statement : YieldsSome grammar.closed_statement
closed_statement = (_, grammar.of_nothing, put token.Semicolon none)

statement : YieldsSome grammar.statement
statement = (_, grammar.of_closed, put_part closed_statement none)

block_statement : YieldsSome grammar.block_statement
block_statement = (_, grammar.of_statement, put_part statement none)

statement_expression : YieldsSome grammar.statement_expression
statement_expression = (_, grammar.of_simple_call_statement, put token.Identifier (next (put_deep arguments none)))

block : YieldsSome grammar.block
block = (_, grammar.of_statements, put token.LeftBrace (pass grammar.no_statements (next (put token.RightBrace none))))

variable : YieldsSome grammar.variable
variable = (_, grammar.of_bare, put_part type_use (next (put token.Identifier none)))

for_head : YieldsSome grammar.for_head
for_head = (
  _,
  grammar.of_for_parts,
  put token.LeftParen (pass grammar.no_start (next (put token.Semicolon (pass grammar.not_there
      (next (put token.Semicolon (pass grammar.no_update (next (put token.RightParen none))))))))),
)

each_head : YieldsSome grammar.each_head
each_head = (
  _,
  grammar.of_inferred_each,
  put token.LeftParen (next (put token.Var (next (put token.Identifier (next (put token.Colon
      (next (put_part expression (next (put token.RightParen none)))))))))),
)

label : YieldsSome grammar.label
label = (_, grammar.of_default, put token.Default (next (put token.Colon none)))

labels : YieldsSome grammar.labels
labels = (_, grammar.last_label, put_part label none)

catches : YieldsSome grammar.catches
catches = (
  _,
  grammar.last_catch,
  put token.Catch (next (put token.LeftParen (next (put token.Identifier (next (put token.Identifier
      (next (put token.RightParen (next (put_deep block none)))))))))),
)

-- ---- declarations

names : YieldsSome grammar.names
names = (_, grammar.last_listed_name, put token.Identifier none)

more_dotted : YieldsSome grammar.more_dotted
more_dotted = (_, grammar.last_name, put token.Dot (next (put token.Identifier none)))

parameter : YieldsSome grammar.parameter
parameter = (_, grammar.of_parameter, put_part type_use (next (put token.Identifier none)))

interface_modifiers : YieldsSome grammar.interface_modifiers
interface_modifiers = (_, grammar.one_more_interface_modifier, put_any token.Public refl (pass grammar.no_interface_modifier none))

result : YieldsSome grammar.result
result = (_, grammar.of_void, put token.Void none)

parameters : YieldsSome grammar.parameters
parameters = (_, grammar.no_parameters, put token.LeftParen (next (put token.RightParen none)))

interface_methods : YieldsSome grammar.interface_methods
interface_methods = (
  _,
  grammar.one_more_interface_method,
  put_part interface_modifiers (next (put_part result (next (put token.Identifier
      (next (put_part parameters (pass grammar.no_names (next (put token.Semicolon (pass grammar.no_interface_method none)))))))))),
)

-- each part that has productions
pub yields_some : (n : Part) → IsProductive n → YieldsSome n
yields_some grammar.expression productive = expression
yields_some grammar.conditional productive = conditional
yields_some (grammar.level n) productive = level n productive
yields_some (grammar.operations n) productive = operations n productive
yields_some grammar.unary productive = unary
yields_some grammar.unsigned productive = unsigned
yields_some grammar.primitive_cast productive = (
  _,
  grammar.of_primitive,
  put token.LeftParen (next (put_any token.Int refl (pass grammar.no_brackets
      (next (put token.RightParen none))))),
)
yields_some grammar.named_cast productive = (
  _,
  grammar.of_named,
  put token.LeftParen (next (put token.Identifier (pass grammar.no_brackets
      (next (put token.RightParen none))))),
)
yields_some grammar.postfix productive = postfix
yields_some grammar.path productive = path
yields_some grammar.target productive = target
yields_some grammar.members productive = members
yields_some grammar.place productive = place
yields_some grammar.primary productive = primary
yields_some grammar.open_creation productive = (_, grammar.of_open_creation, put token.New (next (put_any token.Int refl (next (put_part sizes none)))))
yields_some grammar.selected productive = selected
yields_some grammar.unindexed productive = (_, grammar.of_selected, put_part selected none)
yields_some grammar.parenthesized productive = parenthesized
yields_some grammar.arguments productive = arguments
yields_some grammar.listed productive = (_, grammar.last_argument, put_part expression none)
yields_some grammar.index productive = index
yields_some grammar.sizes productive = sizes
yields_some grammar.brackets productive = (_, grammar.more_brackets, put token.LeftBracket (next (put token.RightBracket (pass grammar.no_brackets none))))
yields_some grammar.braces productive = (_, grammar.no_values, put token.LeftBrace (next (put token.RightBrace none)))
yields_some grammar.initials productive = (_, grammar.last_value, put_part initial none)
yields_some grammar.initial productive = initial
yields_some grammar.type_use productive = type_use
yields_some grammar.statement productive = statement
yields_some grammar.closed_statement productive = closed_statement
yields_some grammar.block_statement productive = block_statement
yields_some grammar.statement_expression productive = statement_expression
yields_some grammar.block productive = block
yields_some grammar.statements productive = (_, grammar.one_more_statement, put_part block_statement (pass grammar.no_statements none))
yields_some grammar.variable productive = variable
yields_some grammar.for_head productive = for_head
yields_some grammar.for_start productive = (_, grammar.of_local_start, put_part variable none)
yields_some grammar.optional productive = (_, grammar.there, put_part expression none)
yields_some grammar.update productive = (_, grammar.of_update, put_part statement_expression none)
yields_some grammar.each_head productive = each_head
yields_some grammar.switch_block productive = (_, grammar.of_groups, put token.LeftBrace (pass grammar.no_groups (next (put token.RightBrace none))))
yields_some grammar.groups productive = (_, grammar.last_group, put_part labels none)
yields_some grammar.labels productive = labels
yields_some grammar.label productive = label
yields_some grammar.catches productive = catches
yields_some grammar.snippet productive = (_, grammar.of_statement_snippet, put_part statement none)
yields_some grammar.dotted productive = (_, grammar.of_dotted, put token.Identifier (next (put_part more_dotted none)))
yields_some grammar.more_dotted productive = more_dotted
yields_some grammar.modifiers productive = (_, grammar.one_more_modifier, put_any token.Final refl (pass grammar.no_modifier none))
yields_some grammar.member_modifiers productive = (_, grammar.one_more_member_modifier, put_any token.Final refl (pass grammar.no_member_modifier none))
yields_some grammar.interface_modifiers productive = interface_modifiers
yields_some grammar.class_body productive = (_, grammar.of_class_body, put token.LeftBrace (pass grammar.no_class_member (next (put token.RightBrace none))))
yields_some grammar.interface_body productive = (_, grammar.of_interface_body, put token.LeftBrace (pass grammar.no_interface_method (next (put token.RightBrace none))))
yields_some grammar.class_members productive = (_, grammar.one_more_semicolon, put token.Semicolon (pass grammar.no_class_member none))
yields_some grammar.interface_methods productive = interface_methods
yields_some grammar.names productive = names
yields_some grammar.superclass productive = (_, grammar.of_superclass, put token.Extends (next (put token.Identifier none)))
yields_some (grammar.names_behind word) productive = (_, grammar.some_names, put word (next (put_part names none)))
yields_some grammar.result productive = result
yields_some grammar.parameters productive = parameters
yields_some grammar.parameters_listed productive = (_, grammar.last_parameter, put_part parameter none)
yields_some grammar.parameter productive = parameter
yields_some grammar.constructor_body productive = (
  _,
  grammar.of_constructor_body,
  put token.LeftBrace
      (pass grammar.no_first_call (pass grammar.no_statements (next (put token.RightBrace none)))),
)
yields_some grammar.first_call productive = (_, grammar.of_this_call, put token.This (next (put_deep arguments (next (put token.Semicolon none)))))
