-- All frames of statements and declarations: nothing right is refused.
use Rattle.std.proofs.Common.{◌≡◌, ℕ, ◌+◌, Bool, true, false, List, [], ◌∷◌, ◌++◌, refl, subst, append_assoc}
use Rattle.jsh_tree.specs.declared.token.TokenKind.{TokenKind}
use Rattle.jsh_tree.specs.declared.token.TokenKind.TheVariants as token
use Rattle.jsh_grammar.specs.Productions.{Part, Symbol, a, any, part, deep, IsProduction}
use Rattle.jsh_grammar.specs.Productions as table
use Rattle.jsh_grammar.specs.Leads.{in_room}
use Rattle.jsh_recognizer.specs.declared.frame.Context.{Context}
use Rattle.jsh_recognizer.specs.declared.frame.Ending.TheVariants as ending
use Rattle.jsh_recognizer.specs.declared.frame.Frame.{Frame}
use Rattle.jsh_recognizer.specs.declared.frame.Frame.TheVariants as frame
use Rattle.jsh_recognizer.specs.Machine.{Frames, move_of}
use Rattle.jsh_recognizer.specs.Meanings as meaning
use Rattle.jsh_recognizer.specs.Meanings.{Stack, Follows, so_far, all_read, by_token, by_class, by_part, by_deep, statement_part, IsPartOf, Within, Paths, Own, Means, a_frame, a_deep_frame}
use Rattle.jsh_recognizer.proofs.TakesOrder.{Orderly}
use Rattle.jsh_recognizer.proofs.TakesStep.{Takes, FStep, taking}
use Rattle.jsh_recognizer.specs.Meanings.{Declares, DeclaresPair, Ended, EndedPair, More, Indexed}
use Rattle.jsh_recognizer.specs.Machine.{may_stop}
use Rattle.jsh_recognizer.proofs.TakesOrder.{Fits}
use Rattle.jsh_recognizer.proofs.TakesOwn.{of_several, sort_of}
use Rattle.jsh_recognizer.proofs.TakesEmpty.{all_empty, read_empty, empty_behind}
use Rattle.jsh_recognizer.proofs.TakesStatements.{condition_takes, block_takes}
use Rattle.jsh_recognizer.proofs.TakesBlocks as blocks
use Rattle.jsh_recognizer.proofs.TakesNamed as named
use Rattle.jsh_recognizer.proofs.TakesDeclarations as declared
use Rattle.jsh_recognizer.proofs.TakesBehind.{OwnOther, own_other, names_behind_step, more_names_step, superclass_step, initialized_step, more_catches_step}
use Rattle.jsh_recognizer.proofs.TakesBehind as other
use Rattle.jsh_recognizer.proofs.TakesSnippet as snippet

-- a frame that is a part
part_step : {limit depth room : ℕ} {whole closed : Bool} {f : Frame} {n : Part} {fs : Frames} {stack : Stack} {k : TokenKind} {ks : List TokenKind} → sort_of f ≡ of_several →
    depth + room ≡ limit → Fits f fs → Orderly fs → Means limit closed fs stack → IsPartOf f n → Follows whole ((room, part n) ∷ stack) (k ∷ ks) →
    FStep limit whole depth fs stack k ks (move_of f k)
part_step is e fits order means meaning.a_condition f = taking (condition_takes e order means f)
part_step is e fits order means meaning.a_block f = taking (block_takes e order means f)
part_step is e fits order means meaning.a_variable f = taking (blocks.variable_takes e fits order means f)
part_step is e fits order means meaning.a_for_head f = taking (named.for_takes e order means f)
part_step is e fits order means meaning.an_each_head f = taking (named.each_takes e order means f)
part_step is e fits order means meaning.a_switch f = taking (blocks.switch_takes e order means f)
part_step is e fits order means meaning.some_catches f = taking (blocks.catches_takes e fits order means f)
part_step is e fits order means meaning.a_snippet f = taking (snippet.snippet_takes e fits order means f)
part_step is e fits order means meaning.some_names f = taking (declared.names_takes e fits order means f)
part_step is e fits order means meaning.some_parameters f = taking (declared.parameters_takes e order means f)
part_step is e fits order means meaning.a_class_body f = taking (declared.class_body_takes e order means f)
part_step is e fits order means meaning.a_constructor_body f = taking (declared.constructor_body_takes e order means f)
part_step is e fits order means meaning.an_interface_body f = taking (declared.interface_body_takes e order means f)
part_step is e fits order means _ f = absurd cc

-- a frame within a production
within_step : {limit depth : ℕ} {whole closed : Bool} {ss : List Symbol} {fs : Frames} {stack : Stack} {k : TokenKind} {ks : List TokenKind} (f : Frame) (room : ℕ) →
    sort_of f ≡ of_several → depth + room ≡ limit → Fits f fs → Orderly fs → Means limit closed fs stack → Within f ss →
    Follows whole (in_room room ss ++ stack) (k ∷ ks) → FStep limit whole depth fs stack k ks (move_of f k)
within_step frame.Statements room is e fits order means meaning.statements f = taking (blocks.statements_takes e order means f)
within_step frame.Initialized room is e fits order means w f = initialized_step room e fits order means w f
within_step frame.Returned room is e fits order means meaning.returned f = taking (blocks.returned_takes e order means f)
within_step frame.ForStart room is e fits order means w f = taking (named.for_start_takes room e order means w f)
within_step frame.ForVariable room is e fits order means w f = taking (named.for_variable_takes room e order means w f)
within_step frame.ForInferred room is e fits order means w f = taking (named.for_inferred_takes room e order means w f)
within_step frame.ForTyped room is e fits order means w f = taking (named.for_typed_takes room e order means w f)
within_step frame.ForCondition room is e fits order means w f = taking (named.for_condition_takes room e order means w f)
within_step frame.ForUpdate room is e fits order means w f = taking (named.for_update_takes room e order means w f)
within_step frame.Groups room is e fits order means meaning.groups f = taking (blocks.groups_takes e order means f)
within_step frame.Group room is e fits order means meaning.group f = taking (blocks.group_takes e order means f)
within_step frame.CaseValue room is e fits order means w f = taking (blocks.case_value_takes room e order means w f)
within_step frame.NegativeValue room is e fits order means meaning.negative_value f = taking (blocks.negative_value_takes e order means f)
within_step frame.MoreCatches room is e fits order means w f = more_catches_step room e fits order means w f
within_step frame.CatchType room is e fits order means w f = taking (blocks.catch_type_takes room e order means w f)
within_step frame.Import room is e fits order means w f = taking (declared.import_takes room e order means w f)
within_step frame.DottedName room is e fits order means w f = taking (declared.dotted_takes room e order means w f)
within_step frame.MoreDotted room is e fits order means w f = taking (declared.more_dotted_takes room e order means w f)
within_step frame.Declaration room is e fits order means w f = taking (declared.declaration_takes room e order means w f)
within_step frame.MethodOrVariable room is e fits order means w f = taking (declared.method_or_variable_takes room e order means w f)
within_step frame.Superclass room is e fits order means w f = superclass_step room e fits order means w f
within_step (frame.NamesBehind word) room is e fits order means meaning.some_names_behind f = names_behind_step e fits.0 fits.1 order means f
within_step frame.MoreNames room is e fits order means w f = more_names_step room e fits order means w f
within_step frame.ParametersInside room is e fits order means w f = taking (declared.parameters_inside_takes room e order means w f)
within_step frame.Parameter room is e fits order means meaning.a_parameter f = taking (declared.parameter_takes e order means f)
within_step frame.MoreParameters room is e fits order means w f = taking (declared.more_parameters_takes room e order means w f)
within_step frame.Members room is e fits order means w f = taking (declared.members_takes room e order means w f)
within_step frame.ClassMember room is e fits order means w f = taking (declared.class_member_takes room e order means w f)
within_step frame.NamedMember room is e fits order means w f = taking (declared.named_member_takes room e order means w f)
within_step frame.FieldOrMethod room is e fits order means w f = taking (declared.field_or_method_takes room e order means w f)
within_step frame.MethodBody room is e fits order means w f = taking (declared.method_body_takes room e order means w f)
within_step frame.FirstCall room is e fits order means w f = taking (snippet.first_call_takes room e order means w f)
within_step frame.ThisFirst room is e fits order means w f = taking (snippet.this_first_takes room e order means w f)
within_step frame.SuperFirst room is e fits order means w f = taking (snippet.super_first_takes room e order means w f)
within_step frame.Signatures room is e fits order means w f = taking (declared.signatures_takes room e order means w f)
within_step frame.Signature room is e fits order means w f = taking (declared.signature_takes room e order means w f)
within_step frame.OpenArguments room is e fits order means w f = absurd cc
within_step frame.Arguments room is e fits order means w f = absurd cc
within_step frame.MoreArguments room is e fits order means w f = absurd cc
within_step frame.Values room is e fits order means w f = absurd cc
within_step frame.MoreValues room is e fits order means w f = absurd cc
within_step frame.Brackets room is e fits order means w f = absurd cc
within_step _ room is e fits order means w f = elim w [ ]

-- behind a name of a type
type_step : {limit depth : ℕ} {whole closed : Bool} {f : Frame} {ss : List Symbol} {fs : Frames} {stack : Stack} {k : TokenKind} {ks : List TokenKind} (room : ℕ) →
    depth + room ≡ limit → Orderly fs → Means limit closed fs stack → Declares f ss →
    Follows whole ((room, part table.brackets) ∷ (room, a token.Identifier) ∷ (in_room room ss ++ stack)) (k ∷ ks) →
    Takes limit whole depth fs ks (move_of f k)
type_step room e order means meaning.bare_local f = named.named_declared room e order means meaning.bare_local f
type_step room e order means meaning.initialized_local f = named.named_declared room e order means meaning.initialized_local f
type_step room e order means (meaning.of_for w) f = named.for_named_declared room e order means (meaning.of_for w) f
type_step room e order means (meaning.of_snippet w) f = snippet.snippet_declared room e order means (meaning.of_snippet w) f

-- the same behind a bracket
pair_step : {limit depth : ℕ} {whole closed : Bool} {f : Frame} {ss : List Symbol} {fs : Frames} {stack : Stack} {k : TokenKind} {ks : List TokenKind} (room : ℕ) →
    depth + room ≡ limit → Orderly fs → Means limit closed fs stack → DeclaresPair f ss →
    Follows whole ((room, a token.RightBracket) ∷ (room, part table.brackets) ∷ (room, a token.Identifier) ∷ (in_room room ss ++ stack)) (k ∷ ks) →
    Takes limit whole depth fs ks (move_of f k)
pair_step room e order means (meaning.paired_local d) f = named.named_pair_declared room e order means d f
pair_step room e order means (meaning.paired_for d) f = named.for_pair_declared room e order means d f
pair_step room e order means (meaning.paired_snippet d) f = snippet.snippet_pair_declared room e order means d f

-- behind a name that begins an expression
effect_step : {limit depth room : ℕ} {whole closed : Bool} {f : Frame} {c : Context} {ss : List Symbol} {fs : Frames} {own stack : Stack} {ks : List TokenKind} (k : TokenKind) →
    depth + room ≡ limit → Orderly fs → Means limit closed fs stack → Ended f c ss → Paths room c ending.Name own →
    Follows whole (own ++ (in_room room ss ++ stack)) (k ∷ ks) → Takes limit whole depth fs ks (move_of f k)
effect_step k e order means meaning.by_semicolon p f = named.named_effect k e order means p f
effect_step k e order means meaning.in_for p f = named.for_named_effect k e order means p f
effect_step k e order means meaning.by_snippet p f = snippet.snippet_effect k e order means p f

-- the same behind a bracket
index_step : {limit depth : ℕ} {whole closed : Bool} {f : Frame} {c : Context} {ss : List Symbol} {fs : Frames} {rest own stack : Stack} {ks : List TokenKind} (k : TokenKind)
    (room : ℕ) → depth + room ≡ limit → Orderly fs → Means limit closed fs stack → EndedPair f c ss → More room c ending.Place rest →
    Indexed room (rest ++ in_room room ss) own → Follows whole (own ++ stack) (k ∷ ks) → Takes limit whole depth fs ks (move_of f k)
index_step k room e order means meaning.pair_by_semicolon m at f = named.named_index k room e order means m at f
index_step k room e order means meaning.pair_in_for m at f = named.for_index k room e order means m at f
index_step k room e order means meaning.pair_by_snippet m at f = snippet.snippet_index k room e order means m at f

-- what stands behind the first call of a constructor
abbrev rest_of_constructor : List Symbol
rest_of_constructor = a token.Semicolon ∷ part table.statements ∷ a token.RightBrace ∷ []

-- a frame of statements or declarations
pub other_step : {limit depth room : ℕ} {whole closed : Bool} {f : Frame} {fs : Frames} {own stack : Stack} {k : TokenKind} {ks : List TokenKind} → sort_of f ≡ of_several →
    depth + room ≡ limit → Fits f fs → Orderly fs → Means limit closed fs stack → OwnOther room f own → Follows whole (own ++ stack) (k ∷ ks) →
    FStep limit whole depth fs stack k ks (move_of f k)
other_step is e fits order means (other.one_part p) f = part_step is e fits order means p f
other_step {room = room} {f = f} is e fits order means (other.the_symbols w) g = within_step f room is e fits order means w g
other_step {room = room} is e fits order means (other.of_type d) f = taking (type_step room e order means d f)
other_step {room = room} {whole = whole} {stack = stack} {k = k} {ks = ks} is e fits order means (other.of_effect {ss = ss} {stack = own} ended p) f =
    taking (effect_step k e order means ended p (subst (λ x. Follows whole x (k ∷ ks)) (append_assoc own (in_room room ss) stack) f))
other_step {room = room} is e fits order means (other.of_pair d) f = taking (pair_step room e order means d f)
other_step {room = room} {k = k} is e fits order means (other.of_index ended m at) f = taking (index_step k room e order means ended m at f)
other_step {room = room} {whole = whole} {stack = stack} {k = k} {ks = ks} is e fits order means (other.of_this {stack = own} m) f =
    taking (snippet.this_effect_takes k e order means m
    (subst (λ x. Follows whole x (k ∷ ks)) (append_assoc own (in_room room rest_of_constructor) stack) f))
other_step {room = room} {whole = whole} {stack = stack} {k = k} {ks = ks} is e fits order means (other.of_super {stack = own} m) f =
    taking (snippet.super_effect_takes e order means m
    (subst (λ x. Follows whole ((room, a token.Dot) ∷ (room, a token.Identifier) ∷ (room, deep table.arguments) ∷ x) (k ∷ ks))
    (append_assoc own (in_room room rest_of_constructor) stack) f))

-- ---- the end

part_ends : {room : ℕ} {f : Frame} {n : Part} {stack : Stack} → sort_of f ≡ of_several → IsPartOf f n → Follows true ((room, part n) ∷ stack) [] →
    (may_stop f ≡ true) × Follows true stack []
part_ends is meaning.a_condition f = let h = read_empty f in absurd cc
part_ends is _ f = let h = read_empty f in absurd cc

within_ends : {f : Frame} {ss : List Symbol} {stack : Stack} (room : ℕ) → sort_of f ≡ of_several → Within f ss → Follows true (in_room room ss ++ stack) [] →
    (may_stop f ≡ true) × Follows true stack []
within_ends room is meaning.some_brackets f = absurd cc
within_ends room is meaning.a_superclass (by_part table.no_superclass f) = (refl, f)
within_ends room is meaning.a_superclass (by_part table.of_superclass f) = elim f [ ]
within_ends room is meaning.some_names_behind (by_part table.no_names f) = (refl, f)
within_ends room is meaning.some_names_behind (by_part table.some_names f) = elim f [ ]
within_ends room is meaning.not_initialized f = (refl, f)
within_ends room is meaning.no_more_catches f = (refl, f)
within_ends room is meaning.no_more_names f = (refl, f)
within_ends room is _ f = let h = read_empty f in absurd cc

ended_ends : {f : Frame} {c : Context} {ss : List Symbol} (room : ℕ) (stack : Stack) → Ended f c ss → all_empty (in_room room ss ++ stack) ≡ false
ended_ends room stack meaning.by_semicolon = refl
ended_ends room stack meaning.in_for = refl
ended_ends room stack meaning.by_snippet = refl

pub other_ends : {room : ℕ} {f : Frame} {own stack : Stack} → sort_of f ≡ of_several → OwnOther room f own → Follows true (own ++ stack) [] →
    (may_stop f ≡ true) × Follows true stack []
other_ends is (other.one_part p) f = part_ends is p f
other_ends {room = room} is (other.the_symbols w) f = within_ends room is w f
other_ends is (other.of_type d) f = let h = read_empty f in absurd cc
other_ends {room = room} {stack = stack} is (other.of_effect {ss = ss} {stack = own} ended p) f =
    let h = read_empty (subst (λ x. Follows true x []) (append_assoc own (in_room room ss) stack) f) in
    let some = empty_behind own (in_room room ss ++ stack) h in let none = ended_ends room stack ended in absurd cc
other_ends is (other.of_pair d) f = let h = read_empty f in absurd cc
other_ends is (other.of_index ended m meaning.indexed) f = let h = read_empty f in absurd cc
other_ends {room = room} {stack = stack} is (other.of_this {stack = own} m) f =
    let h = read_empty (subst (λ x. Follows true x []) (append_assoc own (in_room room rest_of_constructor) stack) f) in
    let some = empty_behind own (in_room room rest_of_constructor ++ stack) h in absurd cc
other_ends is (other.of_super m) f = let h = read_empty f in absurd cc
