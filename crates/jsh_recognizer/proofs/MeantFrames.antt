-- All frames: what they take is right, where they pass they may stop, and where they may stop nothing need follow.
use Rattle.std.proofs.Common.{◌≡◌, ℕ, ◌+◌, ◌≤◌, ◌||◌, Bool, true, false, not, List, [], refl}
use Rattle.jsh_tree.specs.declared.token.TokenKind.{TokenKind}
use Rattle.jsh_tree.specs.declared.token.TokenKind.TheVariants as token
use Rattle.jsh_grammar.specs.Productions as table
use Rattle.jsh_recognizer.specs.declared.frame.Frame.{Frame}
use Rattle.jsh_recognizer.specs.declared.frame.Frame.TheVariants as frame
use Rattle.jsh_recognizer.specs.Machine.{takes, passes, move_of, may_stop, statement, condition, else_branch, block, statements, named, named_pair, variable, initialized, returned, for_head, for_start, for_variable, for_inferred, for_typed, for_named, for_pair, for_condition, for_update, switch_block, groups, group, case_value, negative_value, catches, more_catches, catch_type, snippet, import_name, dotted_name, more_dotted, declaration_behind, method_or_variable, named_snippet, named_snippet_pair, superclass, names, more_names, parameters, parameters_inside, parameter, more_parameters, class_body, members, class_member, named_member, field_or_method, method_body, constructor_body, first_call, this_first, super_first, interface_body, signatures, signature, names_behind}
use Rattle.jsh_recognizer.specs.Meanings as meant
use Rattle.jsh_recognizer.specs.Meanings.{Stack, by_part}
use Rattle.jsh_recognizer.proofs.MeantStep.{Sound, sound_as}
use Rattle.jsh_recognizer.proofs.MeantForms.{Stopping}
use Rattle.jsh_recognizer.proofs.MeantStops.{is_of_expressions, expression_steps, expression_passing, expression_stopping}
use Rattle.jsh_recognizer.proofs.MeantMoves.{Stands, as_own, as_statement, as_none, as_else, takes_right}
use Rattle.jsh_recognizer.proofs.MeantStatements.{statement_right, condition_right, else_right, block_right, statements_right, named_right, named_pair_right, variable_right, initialized_right, returned_right, for_head_right, for_start_right, for_variable_right, for_inferred_right, for_typed_right, for_named_right, for_pair_right, for_condition_right, for_update_right, switch_block_right, groups_right, group_right, case_value_right, negative_value_right, catches_right, more_catches_right, catch_type_right}
use Rattle.jsh_recognizer.proofs.MeantDeclarations.{snippet_right, import_name_right, dotted_name_right, more_dotted_right, declaration_behind_right, method_or_variable_right, named_snippet_right, named_snippet_pair_right, superclass_right, names_right, more_names_right, parameters_right, parameters_inside_right, parameter_right, more_parameters_right, class_body_right, members_right, class_member_right, named_member_right, field_or_method_right, method_body_right, constructor_body_right, first_call_right, this_first_right, super_first_right, interface_body_right, signatures_right, signature_right, names_behind_right}

-- ---- what they take

-- what a frame of expressions takes
of_expressions : (f : Frame) → is_of_expressions f ≡ true → (limit depth room : ℕ) → depth + room ≡ limit → {closed : Bool} {own : Stack} →
    Stands room f closed own →
    (k : TokenKind) (n : ℕ) (new : List (ℕ × Frame)) → move_of f k ≡ takes n new → depth + n ≤ limit → Sound limit depth (Stands room f) k new
of_expressions f so limit depth room fits (as_own {own = own} is) k n new e le =
    sound_as (λ closed s o. as_own o) (expression_steps f so limit depth room fits own is k n new e le)
of_expressions _ so limit depth room fits as_statement k n new e le = absurd cc
of_expressions _ so limit depth room fits as_none k n new e le = absurd cc
of_expressions _ so limit depth room fits as_else k n new e le = absurd cc

-- what any frame takes
pub taken_so : (f : Frame) (limit depth room : ℕ) → depth + room ≡ limit → (closed : Bool) (own : Stack) → Stands room f closed own →
    (k : TokenKind) (n : ℕ) (new : List (ℕ × Frame)) → move_of f k ≡ takes n new → depth + n ≤ limit → Sound limit depth (Stands room f) k new
taken_so frame.Statement limit depth room fits closed own stands k n new e le = takes_right (statement k) (statement_right depth room fits k) n new e le
taken_so frame.Condition limit depth room fits closed own stands k n new e le = takes_right (condition k) (condition_right depth room fits k) n new e le
taken_so frame.Else limit depth room fits closed own stands k n new e le = takes_right (else_branch k) (else_right depth room fits k) n new e le
taken_so frame.Block limit depth room fits closed own stands k n new e le = takes_right (block k) (block_right depth room fits k) n new e le
taken_so frame.Statements limit depth room fits closed own stands k n new e le = takes_right (statements k) (statements_right depth room fits k) n new e le
taken_so frame.Named limit depth room fits closed own stands k n new e le = takes_right (named k) (named_right depth room fits k) n new e le
taken_so frame.NamedPair limit depth room fits closed own stands k n new e le = takes_right (named_pair k) (named_pair_right depth room fits k) n new e le
taken_so frame.Variable limit depth room fits closed own stands k n new e le = takes_right (variable k) (variable_right depth room fits k) n new e le
taken_so frame.Initialized limit depth room fits closed own stands k n new e le = takes_right (initialized k) (initialized_right depth room fits k) n new e le
taken_so frame.Returned limit depth room fits closed own stands k n new e le = takes_right (returned k) (returned_right depth room fits k) n new e le
taken_so frame.For limit depth room fits closed own stands k n new e le = takes_right (for_head k) (for_head_right depth room fits k) n new e le
taken_so frame.ForStart limit depth room fits closed own stands k n new e le = takes_right (for_start k) (for_start_right depth room fits k) n new e le
taken_so frame.ForVariable limit depth room fits closed own stands k n new e le = takes_right (for_variable k) (for_variable_right depth room fits k) n new e le
taken_so frame.ForInferred limit depth room fits closed own stands k n new e le = takes_right (for_inferred k) (for_inferred_right depth room fits k) n new e le
taken_so frame.ForTyped limit depth room fits closed own stands k n new e le = takes_right (for_typed k) (for_typed_right depth room fits k) n new e le
taken_so frame.ForNamed limit depth room fits closed own stands k n new e le = takes_right (for_named k) (for_named_right depth room fits k) n new e le
taken_so frame.ForPair limit depth room fits closed own stands k n new e le = takes_right (for_pair k) (for_pair_right depth room fits k) n new e le
taken_so frame.ForCondition limit depth room fits closed own stands k n new e le =
    takes_right (for_condition k) (for_condition_right depth room fits k) n new e le
taken_so frame.ForUpdate limit depth room fits closed own stands k n new e le = takes_right (for_update k) (for_update_right depth room fits k) n new e le
taken_so frame.Switch limit depth room fits closed own stands k n new e le = takes_right (switch_block k) (switch_block_right depth room fits k) n new e le
taken_so frame.Groups limit depth room fits closed own stands k n new e le = takes_right (groups k) (groups_right depth room fits k) n new e le
taken_so frame.Group limit depth room fits closed own stands k n new e le = takes_right (group k) (group_right depth room fits k) n new e le
taken_so frame.CaseValue limit depth room fits closed own stands k n new e le = takes_right (case_value k) (case_value_right depth room fits k) n new e le
taken_so frame.NegativeValue limit depth room fits closed own stands k n new e le =
    takes_right (negative_value k) (negative_value_right depth room fits k) n new e le
taken_so frame.Catches limit depth room fits closed own stands k n new e le = takes_right (catches k) (catches_right depth room fits k) n new e le
taken_so frame.MoreCatches limit depth room fits closed own stands k n new e le = takes_right (more_catches k) (more_catches_right depth room fits k) n new e le
taken_so frame.CatchType limit depth room fits closed own stands k n new e le = takes_right (catch_type k) (catch_type_right depth room fits k) n new e le
taken_so frame.Snippet limit depth room fits closed own stands k n new e le = takes_right (snippet k) (snippet_right depth room fits k) n new e le
taken_so frame.Import limit depth room fits closed own stands k n new e le = takes_right (import_name k) (import_name_right depth room fits k) n new e le
taken_so frame.DottedName limit depth room fits closed own stands k n new e le = takes_right (dotted_name k) (dotted_name_right depth room fits k) n new e le
taken_so frame.MoreDotted limit depth room fits closed own stands k n new e le = takes_right (more_dotted k) (more_dotted_right depth room fits k) n new e le
taken_so frame.Declaration limit depth room fits closed own stands k n new e le =
    takes_right (declaration_behind k) (declaration_behind_right depth room fits k) n new e le
taken_so frame.MethodOrVariable limit depth room fits closed own stands k n new e le =
    takes_right (method_or_variable k) (method_or_variable_right depth room fits k) n new e le
taken_so frame.NamedSnippet limit depth room fits closed own stands k n new e le =
    takes_right (named_snippet k) (named_snippet_right depth room fits k) n new e le
taken_so frame.NamedSnippetPair limit depth room fits closed own stands k n new e le =
    takes_right (named_snippet_pair k) (named_snippet_pair_right depth room fits k) n new e le
taken_so frame.Superclass limit depth room fits closed own stands k n new e le = takes_right (superclass k) (superclass_right depth room fits k) n new e le
taken_so frame.Names limit depth room fits closed own stands k n new e le = takes_right (names k) (names_right depth room fits k) n new e le
taken_so frame.MoreNames limit depth room fits closed own stands k n new e le = takes_right (more_names k) (more_names_right depth room fits k) n new e le
taken_so frame.Parameters limit depth room fits closed own stands k n new e le = takes_right (parameters k) (parameters_right depth room fits k) n new e le
taken_so frame.ParametersInside limit depth room fits closed own stands k n new e le =
    takes_right (parameters_inside k) (parameters_inside_right depth room fits k) n new e le
taken_so frame.Parameter limit depth room fits closed own stands k n new e le = takes_right (parameter k) (parameter_right depth room fits k) n new e le
taken_so frame.MoreParameters limit depth room fits closed own stands k n new e le =
    takes_right (more_parameters k) (more_parameters_right depth room fits k) n new e le
taken_so frame.ClassBody limit depth room fits closed own stands k n new e le = takes_right (class_body k) (class_body_right depth room fits k) n new e le
taken_so frame.Members limit depth room fits closed own stands k n new e le = takes_right (members k) (members_right depth room fits k) n new e le
taken_so frame.ClassMember limit depth room fits closed own stands k n new e le = takes_right (class_member k) (class_member_right depth room fits k) n new e le
taken_so frame.NamedMember limit depth room fits closed own stands k n new e le = takes_right (named_member k) (named_member_right depth room fits k) n new e le
taken_so frame.FieldOrMethod limit depth room fits closed own stands k n new e le =
    takes_right (field_or_method k) (field_or_method_right depth room fits k) n new e le
taken_so frame.MethodBody limit depth room fits closed own stands k n new e le = takes_right (method_body k) (method_body_right depth room fits k) n new e le
taken_so frame.ConstructorBody limit depth room fits closed own stands k n new e le =
    takes_right (constructor_body k) (constructor_body_right depth room fits k) n new e le
taken_so frame.FirstCall limit depth room fits closed own stands k n new e le = takes_right (first_call k) (first_call_right depth room fits k) n new e le
taken_so frame.ThisFirst limit depth room fits closed own stands k n new e le = takes_right (this_first k) (this_first_right depth room fits k) n new e le
taken_so frame.SuperFirst limit depth room fits closed own stands k n new e le = takes_right (super_first k) (super_first_right depth room fits k) n new e le
taken_so frame.InterfaceBody limit depth room fits closed own stands k n new e le =
    takes_right (interface_body k) (interface_body_right depth room fits k) n new e le
taken_so frame.Signatures limit depth room fits closed own stands k n new e le = takes_right (signatures k) (signatures_right depth room fits k) n new e le
taken_so frame.Signature limit depth room fits closed own stands k n new e le = takes_right (signature k) (signature_right depth room fits k) n new e le
taken_so (frame.NamesBehind word) limit depth room fits closed own stands k n new e le =
    takes_right (names_behind word k) (names_behind_right depth room fits word k) n new e le
taken_so f limit depth room fits closed own stands k n new e le = of_expressions f refl limit depth room fits stands k n new e le

-- ---- where they pass

statement_never : (k : TokenKind) → statement k ≡ passes → ⊥
statement_never token.Semicolon e = absurd cc
statement_never _ e = absurd cc

condition_never : (k : TokenKind) → condition k ≡ passes → ⊥
condition_never token.Semicolon e = absurd cc
condition_never _ e = absurd cc

block_never : (k : TokenKind) → block k ≡ passes → ⊥
block_never token.Semicolon e = absurd cc
block_never _ e = absurd cc

statements_never : (k : TokenKind) → statements k ≡ passes → ⊥
statements_never token.Semicolon e = absurd cc
statements_never _ e = absurd cc

named_never : (k : TokenKind) → named k ≡ passes → ⊥
named_never token.Semicolon e = absurd cc
named_never _ e = absurd cc

named_pair_never : (k : TokenKind) → named_pair k ≡ passes → ⊥
named_pair_never token.Semicolon e = absurd cc
named_pair_never _ e = absurd cc

variable_never : (k : TokenKind) → variable k ≡ passes → ⊥
variable_never token.Semicolon e = absurd cc
variable_never _ e = absurd cc

returned_never : (k : TokenKind) → returned k ≡ passes → ⊥
returned_never token.Semicolon e = absurd cc
returned_never _ e = absurd cc

for_head_never : (k : TokenKind) → for_head k ≡ passes → ⊥
for_head_never token.Semicolon e = absurd cc
for_head_never _ e = absurd cc

for_start_never : (k : TokenKind) → for_start k ≡ passes → ⊥
for_start_never token.Semicolon e = absurd cc
for_start_never _ e = absurd cc

for_variable_never : (k : TokenKind) → for_variable k ≡ passes → ⊥
for_variable_never token.Semicolon e = absurd cc
for_variable_never _ e = absurd cc

for_inferred_never : (k : TokenKind) → for_inferred k ≡ passes → ⊥
for_inferred_never token.Semicolon e = absurd cc
for_inferred_never _ e = absurd cc

for_typed_never : (k : TokenKind) → for_typed k ≡ passes → ⊥
for_typed_never token.Semicolon e = absurd cc
for_typed_never _ e = absurd cc

for_named_never : (k : TokenKind) → for_named k ≡ passes → ⊥
for_named_never token.Semicolon e = absurd cc
for_named_never _ e = absurd cc

for_pair_never : (k : TokenKind) → for_pair k ≡ passes → ⊥
for_pair_never token.Semicolon e = absurd cc
for_pair_never _ e = absurd cc

for_condition_never : (k : TokenKind) → for_condition k ≡ passes → ⊥
for_condition_never token.Semicolon e = absurd cc
for_condition_never _ e = absurd cc

for_update_never : (k : TokenKind) → for_update k ≡ passes → ⊥
for_update_never token.Semicolon e = absurd cc
for_update_never _ e = absurd cc

switch_block_never : (k : TokenKind) → switch_block k ≡ passes → ⊥
switch_block_never token.Semicolon e = absurd cc
switch_block_never _ e = absurd cc

groups_never : (k : TokenKind) → groups k ≡ passes → ⊥
groups_never token.Semicolon e = absurd cc
groups_never _ e = absurd cc

group_never : (k : TokenKind) → group k ≡ passes → ⊥
group_never token.Semicolon e = absurd cc
group_never _ e = absurd cc

case_value_never : (k : TokenKind) → case_value k ≡ passes → ⊥
case_value_never token.Semicolon e = absurd cc
case_value_never _ e = absurd cc

negative_value_never : (k : TokenKind) → negative_value k ≡ passes → ⊥
negative_value_never token.Semicolon e = absurd cc
negative_value_never _ e = absurd cc

catches_never : (k : TokenKind) → catches k ≡ passes → ⊥
catches_never token.Semicolon e = absurd cc
catches_never _ e = absurd cc

catch_type_never : (k : TokenKind) → catch_type k ≡ passes → ⊥
catch_type_never token.Semicolon e = absurd cc
catch_type_never _ e = absurd cc

snippet_never : (k : TokenKind) → snippet k ≡ passes → ⊥
snippet_never token.Semicolon e = absurd cc
snippet_never _ e = absurd cc

import_name_never : (k : TokenKind) → import_name k ≡ passes → ⊥
import_name_never token.Semicolon e = absurd cc
import_name_never _ e = absurd cc

dotted_name_never : (k : TokenKind) → dotted_name k ≡ passes → ⊥
dotted_name_never token.Semicolon e = absurd cc
dotted_name_never _ e = absurd cc

more_dotted_never : (k : TokenKind) → more_dotted k ≡ passes → ⊥
more_dotted_never token.Semicolon e = absurd cc
more_dotted_never _ e = absurd cc

declaration_behind_never : (k : TokenKind) → declaration_behind k ≡ passes → ⊥
declaration_behind_never token.Semicolon e = absurd cc
declaration_behind_never _ e = absurd cc

method_or_variable_never : (k : TokenKind) → method_or_variable k ≡ passes → ⊥
method_or_variable_never token.Semicolon e = absurd cc
method_or_variable_never _ e = absurd cc

named_snippet_never : (k : TokenKind) → named_snippet k ≡ passes → ⊥
named_snippet_never token.Semicolon e = absurd cc
named_snippet_never _ e = absurd cc

named_snippet_pair_never : (k : TokenKind) → named_snippet_pair k ≡ passes → ⊥
named_snippet_pair_never token.Semicolon e = absurd cc
named_snippet_pair_never _ e = absurd cc

names_never : (k : TokenKind) → names k ≡ passes → ⊥
names_never token.Semicolon e = absurd cc
names_never _ e = absurd cc

parameters_never : (k : TokenKind) → parameters k ≡ passes → ⊥
parameters_never token.Semicolon e = absurd cc
parameters_never _ e = absurd cc

parameters_inside_never : (k : TokenKind) → parameters_inside k ≡ passes → ⊥
parameters_inside_never token.Semicolon e = absurd cc
parameters_inside_never _ e = absurd cc

parameter_never : (k : TokenKind) → parameter k ≡ passes → ⊥
parameter_never token.Semicolon e = absurd cc
parameter_never _ e = absurd cc

more_parameters_never : (k : TokenKind) → more_parameters k ≡ passes → ⊥
more_parameters_never token.Semicolon e = absurd cc
more_parameters_never _ e = absurd cc

class_body_never : (k : TokenKind) → class_body k ≡ passes → ⊥
class_body_never token.Semicolon e = absurd cc
class_body_never _ e = absurd cc

members_never : (k : TokenKind) → members k ≡ passes → ⊥
members_never token.Semicolon e = absurd cc
members_never _ e = absurd cc

class_member_never : (k : TokenKind) → class_member k ≡ passes → ⊥
class_member_never token.Semicolon e = absurd cc
class_member_never _ e = absurd cc

named_member_never : (k : TokenKind) → named_member k ≡ passes → ⊥
named_member_never token.Semicolon e = absurd cc
named_member_never _ e = absurd cc

field_or_method_never : (k : TokenKind) → field_or_method k ≡ passes → ⊥
field_or_method_never token.Semicolon e = absurd cc
field_or_method_never _ e = absurd cc

method_body_never : (k : TokenKind) → method_body k ≡ passes → ⊥
method_body_never token.Semicolon e = absurd cc
method_body_never _ e = absurd cc

constructor_body_never : (k : TokenKind) → constructor_body k ≡ passes → ⊥
constructor_body_never token.Semicolon e = absurd cc
constructor_body_never _ e = absurd cc

first_call_never : (k : TokenKind) → first_call k ≡ passes → ⊥
first_call_never token.Semicolon e = absurd cc
first_call_never _ e = absurd cc

this_first_never : (k : TokenKind) → this_first k ≡ passes → ⊥
this_first_never token.Semicolon e = absurd cc
this_first_never _ e = absurd cc

super_first_never : (k : TokenKind) → super_first k ≡ passes → ⊥
super_first_never token.Semicolon e = absurd cc
super_first_never _ e = absurd cc

interface_body_never : (k : TokenKind) → interface_body k ≡ passes → ⊥
interface_body_never token.Semicolon e = absurd cc
interface_body_never _ e = absurd cc

signatures_never : (k : TokenKind) → signatures k ≡ passes → ⊥
signatures_never token.Semicolon e = absurd cc
signatures_never _ e = absurd cc

signature_never : (k : TokenKind) → signature k ≡ passes → ⊥
signature_never token.Semicolon e = absurd cc
signature_never _ e = absurd cc

-- where any frame passes it may stop
pub passed_so : (f : Frame) (k : TokenKind) → move_of f k ≡ passes → may_stop f ≡ true
passed_so frame.Statement k e = absurd (statement_never k e)
passed_so frame.Condition k e = absurd (condition_never k e)
passed_so frame.Else k e = refl
passed_so frame.Block k e = absurd (block_never k e)
passed_so frame.Statements k e = absurd (statements_never k e)
passed_so frame.Named k e = absurd (named_never k e)
passed_so frame.NamedPair k e = absurd (named_pair_never k e)
passed_so frame.Variable k e = absurd (variable_never k e)
passed_so frame.Initialized k e = refl
passed_so frame.Returned k e = absurd (returned_never k e)
passed_so frame.For k e = absurd (for_head_never k e)
passed_so frame.ForStart k e = absurd (for_start_never k e)
passed_so frame.ForVariable k e = absurd (for_variable_never k e)
passed_so frame.ForInferred k e = absurd (for_inferred_never k e)
passed_so frame.ForTyped k e = absurd (for_typed_never k e)
passed_so frame.ForNamed k e = absurd (for_named_never k e)
passed_so frame.ForPair k e = absurd (for_pair_never k e)
passed_so frame.ForCondition k e = absurd (for_condition_never k e)
passed_so frame.ForUpdate k e = absurd (for_update_never k e)
passed_so frame.Switch k e = absurd (switch_block_never k e)
passed_so frame.Groups k e = absurd (groups_never k e)
passed_so frame.Group k e = absurd (group_never k e)
passed_so frame.CaseValue k e = absurd (case_value_never k e)
passed_so frame.NegativeValue k e = absurd (negative_value_never k e)
passed_so frame.Catches k e = absurd (catches_never k e)
passed_so frame.MoreCatches k e = refl
passed_so frame.CatchType k e = absurd (catch_type_never k e)
passed_so frame.Snippet k e = absurd (snippet_never k e)
passed_so frame.Import k e = absurd (import_name_never k e)
passed_so frame.DottedName k e = absurd (dotted_name_never k e)
passed_so frame.MoreDotted k e = absurd (more_dotted_never k e)
passed_so frame.Declaration k e = absurd (declaration_behind_never k e)
passed_so frame.MethodOrVariable k e = absurd (method_or_variable_never k e)
passed_so frame.NamedSnippet k e = absurd (named_snippet_never k e)
passed_so frame.NamedSnippetPair k e = absurd (named_snippet_pair_never k e)
passed_so frame.Superclass k e = refl
passed_so frame.Names k e = absurd (names_never k e)
passed_so frame.MoreNames k e = refl
passed_so frame.Parameters k e = absurd (parameters_never k e)
passed_so frame.ParametersInside k e = absurd (parameters_inside_never k e)
passed_so frame.Parameter k e = absurd (parameter_never k e)
passed_so frame.MoreParameters k e = absurd (more_parameters_never k e)
passed_so frame.ClassBody k e = absurd (class_body_never k e)
passed_so frame.Members k e = absurd (members_never k e)
passed_so frame.ClassMember k e = absurd (class_member_never k e)
passed_so frame.NamedMember k e = absurd (named_member_never k e)
passed_so frame.FieldOrMethod k e = absurd (field_or_method_never k e)
passed_so frame.MethodBody k e = absurd (method_body_never k e)
passed_so frame.ConstructorBody k e = absurd (constructor_body_never k e)
passed_so frame.FirstCall k e = absurd (first_call_never k e)
passed_so frame.ThisFirst k e = absurd (this_first_never k e)
passed_so frame.SuperFirst k e = absurd (super_first_never k e)
passed_so frame.InterfaceBody k e = absurd (interface_body_never k e)
passed_so frame.Signatures k e = absurd (signatures_never k e)
passed_so frame.Signature k e = absurd (signature_never k e)
passed_so (frame.NamesBehind word) k e = refl
passed_so f k e = expression_passing f refl k e

-- ---- where they may stop

-- a frame of expressions, or one that may not stop
stopped_other : (f : Frame) (b : Bool) → is_of_expressions f ≡ b → b || not (may_stop f) ≡ true → Stopping f
stopped_other f true so e room own is may = expression_stopping f so room own is may
stopped_other f false so e room own is may = absurd cc

-- no `else` has a stack of its own
else_own : {room : ℕ} {own : Stack} → meant.Own room frame.Else own → ⊥
else_own (meant.a_part p) = elim p [ ]
else_own (meant.within p) = elim p [ ]
else_own (meant.named_type p) = elim p [ ]
else_own (meant.named_effect p _) = elim p [ ]
else_own (meant.pair_of_type p) = elim p [ ]
else_own (meant.pair_of_index p _ _) = elim p [ ]

-- where any frame may stop, it stands for what nothing is read as
pub stopped_so : (f : Frame) → Stopping f
stopped_so frame.Initialized room own is may = ([], meant.within meant.not_initialized, λ _ _ _ f. f)
stopped_so frame.MoreCatches room own is may = ([], meant.within meant.no_more_catches, λ _ _ _ f. f)
stopped_so frame.MoreNames room own is may = ([], meant.within meant.no_more_names, λ _ _ _ f. f)
stopped_so frame.Superclass room own is may = (_, meant.within meant.a_superclass, λ _ _ _ f. by_part table.no_superclass f)
stopped_so (frame.NamesBehind word) room own is may = (_, meant.within meant.some_names_behind, λ _ _ _ f. by_part table.no_names f)
stopped_so frame.Else room own is may = absurd (else_own is)
stopped_so f room own is may = stopped_other f (is_of_expressions f) refl refl room own is may
