-- The frames of imports and declarations: nothing right is refused.
use Rattle.std.proofs.Common.{◌≡◌, ℕ, ◌+◌, Bool, true, List, [], ◌∷◌, ◌++◌, arith}
use Rattle.jsh_tree.specs.declared.token.TokenKind.{TokenKind}
use Rattle.jsh_tree.specs.declared.token.TokenKind.TheVariants as token
use Rattle.jsh_grammar.specs.Productions.{Part, Symbol, a, any, part, deep, IsProduction}
use Rattle.jsh_grammar.specs.Productions as table
use Rattle.jsh_grammar.specs.Leads.{in_room}
use Rattle.jsh_recognizer.specs.declared.frame.Frame.TheVariants as frame
use Rattle.jsh_recognizer.specs.Machine.{Move, takes, passes, refuses, inside, goes, Frames, onto, move_of}
use Rattle.jsh_recognizer.specs.Machine as machine
use Rattle.jsh_recognizer.specs.Meanings as meaning
use Rattle.jsh_recognizer.specs.Meanings.{Stack, Follows, so_far, all_read, by_token, by_class, by_part, by_deep, statement_part, IsPartOf, Within, Paths, Own, Means, a_frame, a_deep_frame}
use Rattle.jsh_recognizer.proofs.TakesOrder.{Orderly, BehindStatement}
use Rattle.jsh_recognizer.proofs.TakesOrder as behind
use Rattle.jsh_recognizer.proofs.TakesStep.{Takes}
use Rattle.jsh_recognizer.proofs.TakesPlaced.{takes_it}
use Rattle.jsh_grammar.specs.Classes.{is_modifier, is_member_modifier, is_interface_modifier}
use Rattle.jsh_recognizer.proofs.TakesBlocks.{by_type, typed_takes, typed_takes_before}

-- ---- imports

-- the names of an import behind the first one, and the dot that they begin with
pub dotted_rest : {room : ℕ} {whole : Bool} {stack : Stack} {ks : List TokenKind} → Follows whole ((room, part table.more_dotted) ∷ (room, a token.Semicolon) ∷ stack) ks →
    (ss : List Symbol) × Within frame.DottedName ss × Follows whole ((room, a token.Dot) ∷ (in_room room ss ++ stack)) ks
dotted_rest so_far = (a token.Identifier ∷ a token.Semicolon ∷ [], meaning.last_dotted, so_far)
dotted_rest (by_part table.last_name f) = (a token.Identifier ∷ a token.Semicolon ∷ [], meaning.last_dotted, f)
dotted_rest (by_part table.last_star f) = (a token.Star ∷ a token.Semicolon ∷ [], meaning.dotted_star, f)
dotted_rest (by_part table.one_more_name f) = (a token.Identifier ∷ part table.more_dotted ∷ a token.Semicolon ∷ [], meaning.next_dotted, f)

-- the same behind the first name
static_rest : {room : ℕ} {whole : Bool} {stack : Stack} {ks : List TokenKind} → Follows whole ((room, part table.dotted) ∷ (room, a token.Semicolon) ∷ stack) ks →
    (ss : List Symbol) × Within frame.DottedName ss × Follows whole ((room, a token.Identifier) ∷ (room, a token.Dot) ∷ (in_room room ss ++ stack)) ks
static_rest so_far = (a token.Identifier ∷ a token.Semicolon ∷ [], meaning.last_dotted, so_far)
static_rest (by_part table.of_dotted so_far) = (a token.Identifier ∷ a token.Semicolon ∷ [], meaning.last_dotted, so_far)
static_rest (by_part table.of_dotted (by_token f)) = let h = dotted_rest f in (h.0, h.1, by_token h.2)

pub import_takes : {limit depth : ℕ} {whole closed : Bool} {fs : Frames} {stack : Stack} {k : TokenKind} {ks : List TokenKind} {ss : List Symbol} (room : ℕ) →
    depth + room ≡ limit → Orderly fs → Means limit closed fs stack → Within frame.Import ss → Follows whole (in_room room ss ++ stack) (k ∷ ks) →
    Takes limit whole depth fs ks (machine.import_name k)
import_takes room e order means meaning.imported (by_part table.of_dotted (by_token f)) =
    let h = dotted_rest f in takes_it (omega (arith, e)) (tt, (tt, order)) (a_frame e meaning.expected (a_frame e (meaning.within h.1) means)) h.2
import_takes room e order means meaning.static_imported (by_token f) =
    let h = static_rest f in
    takes_it (omega (arith, e)) (tt, (tt, (tt, order))) (a_frame e meaning.expected (a_frame e meaning.expected (a_frame e (meaning.within h.1) means))) h.2

pub dotted_takes : {limit depth : ℕ} {whole closed : Bool} {fs : Frames} {stack : Stack} {k : TokenKind} {ks : List TokenKind} {ss : List Symbol} (room : ℕ) →
    depth + room ≡ limit → Orderly fs → Means limit closed fs stack → Within frame.DottedName ss → Follows whole (in_room room ss ++ stack) (k ∷ ks) →
    Takes limit whole depth fs ks (machine.dotted_name k)
dotted_takes room e order means meaning.last_dotted (by_token f) =
    takes_it (omega (arith, e)) (tt, order) (a_frame e (meaning.within meaning.no_more_dotted) means) f
dotted_takes room e order means meaning.next_dotted (by_token f) =
    takes_it (omega (arith, e)) (tt, order) (a_frame e (meaning.within meaning.more_dotted) means) f
dotted_takes room e order means meaning.dotted_star (by_token f) = takes_it (omega (arith, e)) (tt, order) (a_frame e meaning.expected means) f

pub more_dotted_takes : {limit depth : ℕ} {whole closed : Bool} {fs : Frames} {stack : Stack} {k : TokenKind} {ks : List TokenKind} {ss : List Symbol} (room : ℕ) →
    depth + room ≡ limit → Orderly fs → Means limit closed fs stack → Within frame.MoreDotted ss → Follows whole (in_room room ss ++ stack) (k ∷ ks) →
    Takes limit whole depth fs ks (machine.more_dotted k)
more_dotted_takes room e order means meaning.no_more_dotted (by_token f) = takes_it (omega (arith, e)) order means f
more_dotted_takes room e order means meaning.more_dotted (by_part table.last_name (by_token f)) =
    takes_it (omega (arith, e)) (tt, order) (a_frame e (meaning.within meaning.last_dotted) means) f
more_dotted_takes room e order means meaning.more_dotted (by_part table.last_star (by_token f)) =
    takes_it (omega (arith, e)) (tt, order) (a_frame e (meaning.within meaning.dotted_star) means) f
more_dotted_takes room e order means meaning.more_dotted (by_part table.one_more_name (by_token f)) =
    takes_it (omega (arith, e)) (tt, order) (a_frame e (meaning.within meaning.next_dotted) means) f

-- ---- parameters

pub parameters_takes : {limit depth room : ℕ} {whole closed : Bool} {fs : Frames} {stack : Stack} {k : TokenKind} {ks : List TokenKind} →
    depth + room ≡ limit → Orderly fs → Means limit closed fs stack → Follows whole ((room, part table.parameters) ∷ stack) (k ∷ ks) →
    Takes limit whole depth fs ks (machine.parameters k)
parameters_takes e order means (by_part table.no_parameters (by_token f)) =
    takes_it (omega (arith, e)) (tt, order) (a_frame e (meaning.within meaning.no_parameter) means) f
parameters_takes e order means (by_part table.some_parameters (by_token f)) =
    takes_it (omega (arith, e)) (tt, order) (a_frame e (meaning.within meaning.parameters_inside) means) f

-- a parameter, and then others or a closing parenthesis
one_parameter : {limit depth : ℕ} {whole closed : Bool} {fs : Frames} {ss : List Symbol} {stack : Stack} {k : TokenKind} {ks : List TokenKind} (room : ℕ) →
    depth + room ≡ limit → Orderly fs → Means limit closed fs stack → Within frame.MoreParameters ss →
    Follows whole ((room, part table.parameter) ∷ (in_room room ss ++ stack)) (k ∷ ks) → Takes limit whole depth fs ks (machine.parameter k)
one_parameter room e order means w (by_part table.of_parameter f) =
    let typed = typed_takes frame.MoreParameters e tt order means w in by_type machine.parameter f typed typed typed typed typed
one_parameter room e order means w (by_part table.of_final_parameter (by_token f)) =
    takes_it (omega (arith, e)) (behind.before_name, (tt, (tt, order)))
    (a_frame e (meaning.a_part meaning.a_type) (a_frame e meaning.expected (a_frame e (meaning.within w) means))) f

pub parameter_takes : {limit depth room : ℕ} {whole closed : Bool} {fs : Frames} {stack : Stack} {k : TokenKind} {ks : List TokenKind} →
    depth + room ≡ limit → Orderly fs → Means limit closed fs stack → Follows whole ((room, part table.parameters_listed) ∷ (room, a token.RightParen) ∷ stack) (k ∷ ks) →
    Takes limit whole depth fs ks (machine.parameter k)
parameter_takes {room = room} e order means (by_part table.last_parameter f) = one_parameter room e order means meaning.last_parameter f
parameter_takes {room = room} e order means (by_part table.one_more_parameter f) = one_parameter room e order means meaning.next_parameter f

parameter_begun : {limit : ℕ} {whole : Bool} {depth : ℕ} {fs : Frames} {ks : List TokenKind} (k : TokenKind) → Takes limit whole depth fs ks (machine.parameter k) →
    Takes limit whole depth fs ks (machine.parameters_inside k)
parameter_begun token.RightParen t = elim t [ ]
parameter_begun _ t = t

pub parameters_inside_takes : {limit depth : ℕ} {whole closed : Bool} {fs : Frames} {stack : Stack} {k : TokenKind} {ks : List TokenKind} {ss : List Symbol} (room : ℕ) →
    depth + room ≡ limit → Orderly fs → Means limit closed fs stack → Within frame.ParametersInside ss → Follows whole (in_room room ss ++ stack) (k ∷ ks) →
    Takes limit whole depth fs ks (machine.parameters_inside k)
parameters_inside_takes room e order means meaning.no_parameter (by_token f) = takes_it (omega (arith, e)) order means f
parameters_inside_takes {k = k} room e order means meaning.parameters_inside f = parameter_begun k (parameter_takes e order means f)

pub more_parameters_takes : {limit depth : ℕ} {whole closed : Bool} {fs : Frames} {stack : Stack} {k : TokenKind} {ks : List TokenKind} {ss : List Symbol} (room : ℕ) →
    depth + room ≡ limit → Orderly fs → Means limit closed fs stack → Within frame.MoreParameters ss → Follows whole (in_room room ss ++ stack) (k ∷ ks) →
    Takes limit whole depth fs ks (machine.more_parameters k)
more_parameters_takes room e order means meaning.last_parameter (by_token f) = takes_it (omega (arith, e)) order means f
more_parameters_takes room e order means meaning.next_parameter (by_token f) =
    takes_it (omega (arith, e)) (tt, order) (a_frame e (meaning.within meaning.a_parameter) means) f

-- ---- names of types

pub names_takes : {limit depth room : ℕ} {whole closed : Bool} {fs : Frames} {stack : Stack} {k : TokenKind} {ks : List TokenKind} →
    depth + room ≡ limit → behind.BehindNames fs → Orderly fs → Means limit closed fs stack → Follows whole ((room, part table.names) ∷ stack) (k ∷ ks) →
    Takes limit whole depth fs ks (machine.names k)
names_takes e b order means (by_part table.last_listed_name (by_token f)) =
    takes_it (omega (arith, e)) (b, order) (a_frame e (meaning.within meaning.no_more_names) means) f
names_takes e b order means (by_part table.one_more_listed_name (by_token f)) =
    takes_it (omega (arith, e)) (b, order) (a_frame e (meaning.within meaning.more_names) means) f

-- ---- declarations of a snippet

-- a method, behind its name
method_takes : {limit depth room : ℕ} {whole closed : Bool} {fs : Frames} {stack : Stack} {k : TokenKind} {ks : List TokenKind} →
    depth + room ≡ limit → Orderly fs → Means limit closed fs stack → Follows whole (in_room room (meaning.method_rest (deep table.block ∷ [])) ++ stack) (k ∷ ks) →
    Takes limit whole depth fs ks (machine.method_or_variable k)
method_takes e order means (by_part table.no_parameters (by_token f)) =
    takes_it (omega (arith, e)) (tt, ((behind.word_throws, behind.before_block), (tt, order)))
    (a_frame e (meaning.within meaning.no_parameter) (a_frame e (meaning.within meaning.some_names_behind) (a_deep_frame e meaning.a_block means))) f
method_takes e order means (by_part table.some_parameters (by_token f)) =
    takes_it (omega (arith, e)) (tt, ((behind.word_throws, behind.before_block), (tt, order)))
    (a_frame e (meaning.within meaning.parameters_inside) (a_frame e (meaning.within meaning.some_names_behind) (a_deep_frame e meaning.a_block means))) f

pub method_or_variable_takes : {limit depth : ℕ} {whole closed : Bool} {fs : Frames} {stack : Stack} {k : TokenKind} {ks : List TokenKind} {ss : List Symbol} (room : ℕ) →
    depth + room ≡ limit → Orderly fs → Means limit closed fs stack → Within frame.MethodOrVariable ss → Follows whole (in_room room ss ++ stack) (k ∷ ks) →
    Takes limit whole depth fs ks (machine.method_or_variable k)
method_or_variable_takes room e order means meaning.a_method f = method_takes e order means f
method_or_variable_takes room e order means meaning.a_bare_variable (by_token f) = takes_it (omega (arith, e)) order means f
method_or_variable_takes room e order means meaning.an_initialized_variable (by_token f) =
    takes_it (omega (arith, e)) (behind.closes_statement, (tt, order)) (a_frame e (meaning.a_part meaning.an_initial) (a_frame e meaning.expected means)) f

-- a modifier of a declaration
modified : {limit : ℕ} {whole : Bool} {depth : ℕ} {fs : Frames} {ks : List TokenKind} (k : TokenKind) → is_modifier k ≡ true →
    Takes limit whole depth fs ks (goes (frame.Declaration ∷ [])) → Takes limit whole depth fs ks (machine.declaration_behind k)
modified token.Public is t = t
modified token.Protected is t = t
modified token.Private is t = t
modified token.Static is t = t
modified token.Final is t = t
modified token.Volatile is t = t
modified token.Abstract is t = t
modified _ is t = absurd cc

pub declaration_takes : {limit depth : ℕ} {whole closed : Bool} {fs : Frames} {stack : Stack} {k : TokenKind} {ks : List TokenKind} {ss : List Symbol} (room : ℕ) →
    depth + room ≡ limit → Orderly fs → Means limit closed fs stack → Within frame.Declaration ss → Follows whole (in_room room ss ++ stack) (k ∷ ks) →
    Takes limit whole depth fs ks (machine.declaration_behind k)
declaration_takes {k = k} room e order means meaning.class_declared (by_part table.one_more_modifier (by_class is f)) =
    modified k is (takes_it (omega (arith, e)) (tt, order) (a_frame e (meaning.within meaning.class_declared) means) f)
declaration_takes {k = k} room e order means meaning.interface_declared (by_part table.one_more_modifier (by_class is f)) =
    modified k is (takes_it (omega (arith, e)) (tt, order) (a_frame e (meaning.within meaning.interface_declared) means) f)
declaration_takes {k = k} room e order means meaning.method_declared (by_part table.one_more_modifier (by_class is f)) =
    modified k is (takes_it (omega (arith, e)) (tt, order) (a_frame e (meaning.within meaning.method_declared) means) f)
declaration_takes {k = k} room e order means meaning.variable_declared (by_part table.one_more_modifier (by_class is f)) =
    modified k is (takes_it (omega (arith, e)) (tt, order) (a_frame e (meaning.within meaning.variable_declared) means) f)
declaration_takes room e order means meaning.class_declared (by_part table.no_modifier (by_token f)) =
    takes_it (omega (arith, e)) (tt, (behind.before_interfaces, ((behind.word_implements, behind.before_class_body), (tt, order))))
    (a_frame e meaning.expected (a_frame e (meaning.within meaning.a_superclass) (a_frame e (meaning.within meaning.some_names_behind)
    (a_deep_frame e meaning.a_class_body means)))) f
declaration_takes room e order means meaning.interface_declared (by_part table.no_modifier (by_token f)) =
    takes_it (omega (arith, e)) (tt, ((behind.word_extends, behind.before_interface_body), (tt, order)))
    (a_frame e meaning.expected (a_frame e (meaning.within meaning.some_names_behind) (a_deep_frame e meaning.an_interface_body means))) f
declaration_takes room e order means meaning.method_declared (by_part table.no_modifier (by_part table.of_void (by_token f))) =
    takes_it (omega (arith, e)) (tt, (tt, ((behind.word_throws, behind.before_block), (tt, order))))
    (a_frame e meaning.expected (a_frame e (meaning.a_part meaning.some_parameters) (a_frame e (meaning.within meaning.some_names_behind)
    (a_deep_frame e meaning.a_block means)))) f
declaration_takes room e order means meaning.method_declared (by_part table.no_modifier (by_part table.of_result f)) =
    let typed = typed_takes frame.MethodOrVariable e tt order means meaning.a_method in by_type machine.declaration_behind f typed typed typed typed typed
declaration_takes room e order means meaning.variable_declared (by_part table.no_modifier (by_part table.of_inferred (by_token f))) =
    takes_it (omega (arith, e)) (tt, (tt, (behind.closes_statement, (tt, order))))
    (a_frame e meaning.expected (a_frame e meaning.expected (a_frame e (meaning.a_part meaning.an_expression) (a_frame e meaning.expected means)))) f
declaration_takes room e order means meaning.variable_declared (by_part table.no_modifier (by_part table.of_bare f)) =
    let typed = typed_takes frame.MethodOrVariable e tt order means meaning.a_bare_variable in by_type machine.declaration_behind f typed typed typed typed typed
declaration_takes room e order means meaning.variable_declared (by_part table.no_modifier (by_part table.of_initialized f)) =
    let typed = typed_takes frame.MethodOrVariable e tt order means meaning.an_initialized_variable in
    by_type machine.declaration_behind f typed typed typed typed typed

-- ---- classes

pub class_body_takes : {limit depth room : ℕ} {whole closed : Bool} {fs : Frames} {stack : Stack} {k : TokenKind} {ks : List TokenKind} →
    depth + room ≡ limit → Orderly fs → Means limit closed fs stack → Follows whole ((room, part table.class_body) ∷ stack) (k ∷ ks) →
    Takes limit whole depth fs ks (machine.class_body k)
class_body_takes e order means (by_part table.of_class_body (by_token f)) =
    takes_it (omega (arith, e)) (tt, order) (a_frame e (meaning.within meaning.members) means) f

-- a modifier of a member
member_modified : {limit : ℕ} {whole : Bool} {depth : ℕ} {fs : Frames} {ks : List TokenKind} (k : TokenKind) → is_member_modifier k ≡ true →
    Takes limit whole depth fs ks (goes (frame.ClassMember ∷ [])) → Takes limit whole depth fs ks (machine.class_member k)
member_modified token.Public is t = t
member_modified token.Protected is t = t
member_modified token.Private is t = t
member_modified token.Final is t = t
member_modified token.Volatile is t = t
member_modified token.Abstract is t = t
member_modified _ is t = absurd cc

-- a type and a name, and what stands behind them in a field or a method
member_type : {limit depth : ℕ} {whole closed : Bool} {fs : Frames} {ss : List Symbol} {stack : Stack} {k : TokenKind} {ks : List TokenKind} (room : ℕ) →
    depth + room ≡ limit → Orderly fs → Means limit closed fs stack → Within frame.FieldOrMethod ss →
    Within frame.NamedMember (part table.brackets ∷ a token.Identifier ∷ (ss ++ part table.class_members ∷ a token.RightBrace ∷ [])) →
    Follows whole ((room, part table.type_use) ∷ (room, a token.Identifier) ∷ (in_room room (ss ++ part table.class_members ∷ a token.RightBrace ∷ []) ++ stack)) (k ∷ ks) →
    Takes limit whole depth fs ks (machine.class_member k)
member_type room e order means meaning.a_bare_field w f =
    let typed = typed_takes_before frame.FieldOrMethod frame.Members e tt tt order (a_frame e (meaning.within meaning.members) means) meaning.a_bare_field in
    by_type machine.class_member f (λ g. takes_it (omega (arith, e)) (tt, order) (a_frame e (meaning.within w) means) g) typed typed typed typed
member_type room e order means meaning.an_initialized_field w f =
    let typed = typed_takes_before frame.FieldOrMethod frame.Members e tt tt order (a_frame e (meaning.within meaning.members) means) meaning.an_initialized_field in
    by_type machine.class_member f (λ g. takes_it (omega (arith, e)) (tt, order) (a_frame e (meaning.within w) means) g) typed typed typed typed
member_type room e order means meaning.an_abstract_method w f =
    let typed = typed_takes_before frame.FieldOrMethod frame.Members e tt tt order (a_frame e (meaning.within meaning.members) means) meaning.an_abstract_method in
    by_type machine.class_member f (λ g. takes_it (omega (arith, e)) (tt, order) (a_frame e (meaning.within w) means) g) typed typed typed typed
member_type room e order means meaning.a_whole_method w f =
    let typed = typed_takes_before frame.FieldOrMethod frame.Members e tt tt order (a_frame e (meaning.within meaning.members) means) meaning.a_whole_method in
    by_type machine.class_member f (λ g. takes_it (omega (arith, e)) (tt, order) (a_frame e (meaning.within w) means) g) typed typed typed typed

pub class_member_takes : {limit depth : ℕ} {whole closed : Bool} {fs : Frames} {stack : Stack} {k : TokenKind} {ks : List TokenKind} {ss : List Symbol} (room : ℕ) →
    depth + room ≡ limit → Orderly fs → Means limit closed fs stack → Within frame.ClassMember ss → Follows whole (in_room room ss ++ stack) (k ∷ ks) →
    Takes limit whole depth fs ks (machine.class_member k)
class_member_takes {k = k} room e order means meaning.member_bare_field (by_part table.one_more_member_modifier (by_class is f)) =
    member_modified k is (takes_it (omega (arith, e)) (tt, order) (a_frame e (meaning.within meaning.member_bare_field) means) f)
class_member_takes {k = k} room e order means meaning.member_field (by_part table.one_more_member_modifier (by_class is f)) =
    member_modified k is (takes_it (omega (arith, e)) (tt, order) (a_frame e (meaning.within meaning.member_field) means) f)
class_member_takes {k = k} room e order means meaning.member_abstract_method (by_part table.one_more_member_modifier (by_class is f)) =
    member_modified k is (takes_it (omega (arith, e)) (tt, order) (a_frame e (meaning.within meaning.member_abstract_method) means) f)
class_member_takes {k = k} room e order means meaning.member_method (by_part table.one_more_member_modifier (by_class is f)) =
    member_modified k is (takes_it (omega (arith, e)) (tt, order) (a_frame e (meaning.within meaning.member_method) means) f)
class_member_takes {k = k} room e order means meaning.member_constructor (by_part table.one_more_member_modifier (by_class is f)) =
    member_modified k is (takes_it (omega (arith, e)) (tt, order) (a_frame e (meaning.within meaning.member_constructor) means) f)
class_member_takes room e order means meaning.member_bare_field (by_part table.no_member_modifier f) =
    member_type room e order means meaning.a_bare_field meaning.named_bare_field f
class_member_takes room e order means meaning.member_field (by_part table.no_member_modifier f) =
    member_type room e order means meaning.an_initialized_field meaning.named_field f
class_member_takes room e order means meaning.member_abstract_method (by_part table.no_member_modifier (by_part table.of_void (by_token f))) =
    takes_it (omega (arith, e)) (tt, (tt, ((behind.word_throws, behind.before_method_body), (tt, (tt, order)))))
    (a_frame e meaning.expected (a_frame e (meaning.a_part meaning.some_parameters) (a_frame e (meaning.within meaning.some_names_behind)
    (a_frame e (meaning.within meaning.no_method_body) (a_frame e (meaning.within meaning.members) means))))) f
class_member_takes room e order means meaning.member_method (by_part table.no_member_modifier (by_part table.of_void (by_token f))) =
    takes_it (omega (arith, e)) (tt, (tt, ((behind.word_throws, behind.before_method_body), (tt, (tt, order)))))
    (a_frame e meaning.expected (a_frame e (meaning.a_part meaning.some_parameters) (a_frame e (meaning.within meaning.some_names_behind)
    (a_frame e (meaning.within meaning.method_body) (a_frame e (meaning.within meaning.members) means))))) f
class_member_takes room e order means meaning.member_abstract_method (by_part table.no_member_modifier (by_part table.of_result f)) =
    member_type room e order means meaning.an_abstract_method meaning.named_abstract_method f
class_member_takes room e order means meaning.member_method (by_part table.no_member_modifier (by_part table.of_result f)) =
    member_type room e order means meaning.a_whole_method meaning.named_method f
class_member_takes room e order means meaning.member_constructor (by_part table.no_member_modifier (by_token f)) =
    takes_it (omega (arith, e)) (tt, order) (a_frame e (meaning.within meaning.named_constructor) means) f

member_begun : {limit : ℕ} {whole : Bool} {depth : ℕ} {fs : Frames} {ks : List TokenKind} (k : TokenKind) → Takes limit whole depth fs ks (machine.class_member k) →
    Takes limit whole depth fs ks (machine.members k)
member_begun token.RightBrace t = elim t [ ]
member_begun token.Semicolon t = elim t [ ]
member_begun _ t = t

pub members_takes : {limit depth : ℕ} {whole closed : Bool} {fs : Frames} {stack : Stack} {k : TokenKind} {ks : List TokenKind} {ss : List Symbol} (room : ℕ) →
    depth + room ≡ limit → Orderly fs → Means limit closed fs stack → Within frame.Members ss → Follows whole (in_room room ss ++ stack) (k ∷ ks) →
    Takes limit whole depth fs ks (machine.members k)
members_takes room e order means meaning.members (by_part table.no_class_member (by_token f)) = takes_it (omega (arith, e)) order means f
members_takes room e order means meaning.members (by_part table.one_more_semicolon (by_token f)) =
    takes_it (omega (arith, e)) (tt, order) (a_frame e (meaning.within meaning.members) means) f
members_takes {k = k} room e order means meaning.members (by_part table.one_more_bare_field f) =
    member_begun k (class_member_takes room e order means meaning.member_bare_field f)
members_takes {k = k} room e order means meaning.members (by_part table.one_more_field f) =
    member_begun k (class_member_takes room e order means meaning.member_field f)
members_takes {k = k} room e order means meaning.members (by_part table.one_more_abstract_method f) =
    member_begun k (class_member_takes room e order means meaning.member_abstract_method f)
members_takes {k = k} room e order means meaning.members (by_part table.one_more_method f) =
    member_begun k (class_member_takes room e order means meaning.member_method f)
members_takes {k = k} room e order means meaning.members (by_part table.one_more_constructor f) =
    member_begun k (class_member_takes room e order means meaning.member_constructor f)

-- behind the name of a member's type
member_named : {limit depth : ℕ} {whole closed : Bool} {fs : Frames} {ss : List Symbol} {stack : Stack} {k : TokenKind} {ks : List TokenKind} (room : ℕ) →
    depth + room ≡ limit → Orderly fs → Means limit closed ((depth, frame.Members) ∷ fs) stack → Within frame.FieldOrMethod ss →
    Follows whole ((room, part table.brackets) ∷ (room, a token.Identifier) ∷ (in_room room ss ++ stack)) (k ∷ ks) →
    Takes limit whole depth fs ks (machine.named_member k)
member_named room e order means w (by_part table.no_brackets (by_token f)) =
    takes_it (omega (arith, e)) (tt, (tt, order)) (a_frame e (meaning.within w) means) f
member_named room e order means w (by_part table.more_brackets (by_token f)) =
    takes_it (omega (arith, e)) (tt, (behind.before_name, (tt, (tt, (tt, order)))))
    (a_frame e meaning.expected (a_frame e (meaning.within meaning.some_brackets) (a_frame e meaning.expected (a_frame e (meaning.within w) means)))) f

pub named_member_takes : {limit depth : ℕ} {whole closed : Bool} {fs : Frames} {stack : Stack} {k : TokenKind} {ks : List TokenKind} {ss : List Symbol} (room : ℕ) →
    depth + room ≡ limit → Orderly fs → Means limit closed fs stack → Within frame.NamedMember ss → Follows whole (in_room room ss ++ stack) (k ∷ ks) →
    Takes limit whole depth fs ks (machine.named_member k)
named_member_takes room e order means meaning.named_bare_field f =
    member_named room e order (a_frame e (meaning.within meaning.members) means) meaning.a_bare_field f
named_member_takes room e order means meaning.named_field f =
    member_named room e order (a_frame e (meaning.within meaning.members) means) meaning.an_initialized_field f
named_member_takes room e order means meaning.named_abstract_method f =
    member_named room e order (a_frame e (meaning.within meaning.members) means) meaning.an_abstract_method f
named_member_takes room e order means meaning.named_method f =
    member_named room e order (a_frame e (meaning.within meaning.members) means) meaning.a_whole_method f
named_member_takes room e order means meaning.named_constructor (by_part table.no_parameters (by_token f)) =
    takes_it (omega (arith, e)) (tt, ((behind.word_throws, behind.before_constructor_body), (tt, (tt, order))))
    (a_frame e (meaning.within meaning.no_parameter) (a_frame e (meaning.within meaning.some_names_behind)
    (a_deep_frame e meaning.a_constructor_body (a_frame e (meaning.within meaning.members) means)))) f
named_member_takes room e order means meaning.named_constructor (by_part table.some_parameters (by_token f)) =
    takes_it (omega (arith, e)) (tt, ((behind.word_throws, behind.before_constructor_body), (tt, (tt, order))))
    (a_frame e (meaning.within meaning.parameters_inside) (a_frame e (meaning.within meaning.some_names_behind)
    (a_deep_frame e meaning.a_constructor_body (a_frame e (meaning.within meaning.members) means)))) f

pub field_or_method_takes : {limit depth : ℕ} {whole closed : Bool} {fs : Frames} {stack : Stack} {k : TokenKind} {ks : List TokenKind} {ss : List Symbol} (room : ℕ) →
    depth + room ≡ limit → Orderly fs → Means limit closed fs stack → Within frame.FieldOrMethod ss → Follows whole (in_room room ss ++ stack) (k ∷ ks) →
    Takes limit whole depth fs ks (machine.field_or_method k)
field_or_method_takes room e order means meaning.a_bare_field (by_token f) = takes_it (omega (arith, e)) order means f
field_or_method_takes room e order means meaning.an_initialized_field (by_token f) =
    takes_it (omega (arith, e)) (behind.closes_statement, (tt, order)) (a_frame e (meaning.a_part meaning.an_initial) (a_frame e meaning.expected means)) f
field_or_method_takes room e order means meaning.an_abstract_method (by_part table.no_parameters (by_token f)) =
    takes_it (omega (arith, e)) (tt, ((behind.word_throws, behind.before_method_body), (tt, order)))
    (a_frame e (meaning.within meaning.no_parameter) (a_frame e (meaning.within meaning.some_names_behind) (a_frame e (meaning.within meaning.no_method_body) means))) f
field_or_method_takes room e order means meaning.an_abstract_method (by_part table.some_parameters (by_token f)) =
    takes_it (omega (arith, e)) (tt, ((behind.word_throws, behind.before_method_body), (tt, order)))
    (a_frame e (meaning.within meaning.parameters_inside) (a_frame e (meaning.within meaning.some_names_behind) (a_frame e (meaning.within meaning.no_method_body) means))) f
field_or_method_takes room e order means meaning.a_whole_method (by_part table.no_parameters (by_token f)) =
    takes_it (omega (arith, e)) (tt, ((behind.word_throws, behind.before_method_body), (tt, order)))
    (a_frame e (meaning.within meaning.no_parameter) (a_frame e (meaning.within meaning.some_names_behind) (a_frame e (meaning.within meaning.method_body) means))) f
field_or_method_takes room e order means meaning.a_whole_method (by_part table.some_parameters (by_token f)) =
    takes_it (omega (arith, e)) (tt, ((behind.word_throws, behind.before_method_body), (tt, order)))
    (a_frame e (meaning.within meaning.parameters_inside) (a_frame e (meaning.within meaning.some_names_behind) (a_frame e (meaning.within meaning.method_body) means))) f

pub method_body_takes : {limit depth : ℕ} {whole closed : Bool} {fs : Frames} {stack : Stack} {k : TokenKind} {ks : List TokenKind} {ss : List Symbol} (room : ℕ) →
    depth + room ≡ limit → Orderly fs → Means limit closed fs stack → Within frame.MethodBody ss → Follows whole (in_room room ss ++ stack) (k ∷ ks) →
    Takes limit whole depth fs ks (machine.method_body k)
method_body_takes room e order means meaning.no_method_body (by_token f) = takes_it (omega (arith, e)) order means f
method_body_takes room e order means meaning.method_body (by_deep table.of_statements (by_token f)) =
    takes_it (omega (arith, e)) (tt, order) (a_frame (omega (arith, e)) (meaning.within meaning.statements) means) f

pub constructor_body_takes : {limit depth room : ℕ} {whole closed : Bool} {fs : Frames} {stack : Stack} {k : TokenKind} {ks : List TokenKind} →
    depth + room ≡ limit → Orderly fs → Means limit closed fs stack → Follows whole ((room, part table.constructor_body) ∷ stack) (k ∷ ks) →
    Takes limit whole depth fs ks (machine.constructor_body k)
constructor_body_takes e order means (by_part table.of_constructor_body (by_token f)) =
    takes_it (omega (arith, e)) (tt, order) (a_frame e (meaning.within meaning.first_call) means) f

-- ---- interfaces

pub interface_body_takes : {limit depth room : ℕ} {whole closed : Bool} {fs : Frames} {stack : Stack} {k : TokenKind} {ks : List TokenKind} →
    depth + room ≡ limit → Orderly fs → Means limit closed fs stack → Follows whole ((room, part table.interface_body) ∷ stack) (k ∷ ks) →
    Takes limit whole depth fs ks (machine.interface_body k)
interface_body_takes e order means (by_part table.of_interface_body (by_token f)) =
    takes_it (omega (arith, e)) (tt, order) (a_frame e (meaning.within meaning.signatures) means) f

-- a modifier of a method of an interface
interface_modified : {limit : ℕ} {whole : Bool} {depth : ℕ} {fs : Frames} {ks : List TokenKind} (k : TokenKind) → is_interface_modifier k ≡ true →
    Takes limit whole depth fs ks (goes (frame.Signature ∷ [])) → Takes limit whole depth fs ks (machine.signature k)
interface_modified token.Public is t = t
interface_modified token.Abstract is t = t
interface_modified _ is t = absurd cc

-- a type and a name, and the rest of the method behind them
signed_takes : {limit depth room : ℕ} {whole closed : Bool} {fs : Frames} {stack : Stack} {ks : List TokenKind} →
    depth + room ≡ limit → Orderly fs → Means limit closed fs stack →
    Follows whole ((room, part table.brackets) ∷ (room, a token.Identifier)
    ∷ (in_room room (meaning.method_rest (a token.Semicolon ∷ part table.interface_methods ∷ a token.RightBrace ∷ [])) ++ stack)) ks →
    Takes limit whole depth fs ks (goes (machine.named_by machine.signed))
signed_takes e order means f =
    takes_it (omega (arith, e)) (behind.before_name, (tt, (tt, ((behind.word_throws, behind.before_semicolon), (tt, (tt, order))))))
    (a_frame e (meaning.within meaning.some_brackets) (a_frame e meaning.expected (a_frame e (meaning.a_part meaning.some_parameters)
    (a_frame e (meaning.within meaning.some_names_behind) (a_frame e meaning.expected (a_frame e (meaning.within meaning.signatures) means)))))) f

pub signature_takes : {limit depth : ℕ} {whole closed : Bool} {fs : Frames} {stack : Stack} {k : TokenKind} {ks : List TokenKind} {ss : List Symbol} (room : ℕ) →
    depth + room ≡ limit → Orderly fs → Means limit closed fs stack → Within frame.Signature ss → Follows whole (in_room room ss ++ stack) (k ∷ ks) →
    Takes limit whole depth fs ks (machine.signature k)
signature_takes {k = k} room e order means meaning.signature (by_part table.one_more_interface_modifier (by_class is f)) =
    interface_modified k is (takes_it (omega (arith, e)) (tt, order) (a_frame e (meaning.within meaning.signature) means) f)
signature_takes room e order means meaning.signature (by_part table.no_interface_modifier (by_part table.of_void (by_token f))) =
    takes_it (omega (arith, e)) (tt, (tt, ((behind.word_throws, behind.before_semicolon), (tt, (tt, order)))))
    (a_frame e meaning.expected (a_frame e (meaning.a_part meaning.some_parameters)
    (a_frame e (meaning.within meaning.some_names_behind) (a_frame e meaning.expected (a_frame e (meaning.within meaning.signatures) means))))) f
signature_takes room e order means meaning.signature (by_part table.no_interface_modifier (by_part table.of_result f)) =
    let typed = signed_takes e order means in by_type machine.signature f typed typed typed typed typed

signature_begun : {limit : ℕ} {whole : Bool} {depth : ℕ} {fs : Frames} {ks : List TokenKind} (k : TokenKind) → Takes limit whole depth fs ks (machine.signature k) →
    Takes limit whole depth fs ks (machine.signatures k)
signature_begun token.RightBrace t = elim t [ ]
signature_begun _ t = t

pub signatures_takes : {limit depth : ℕ} {whole closed : Bool} {fs : Frames} {stack : Stack} {k : TokenKind} {ks : List TokenKind} {ss : List Symbol} (room : ℕ) →
    depth + room ≡ limit → Orderly fs → Means limit closed fs stack → Within frame.Signatures ss → Follows whole (in_room room ss ++ stack) (k ∷ ks) →
    Takes limit whole depth fs ks (machine.signatures k)
signatures_takes room e order means meaning.signatures (by_part table.no_interface_method (by_token f)) = takes_it (omega (arith, e)) order means f
signatures_takes {k = k} room e order means meaning.signatures (by_part table.one_more_interface_method f) =
    signature_begun k (signature_takes room e order means meaning.signature f)
