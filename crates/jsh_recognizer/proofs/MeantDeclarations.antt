-- The moves of the frames of snippets and declarations are right.
use Rattle.std.proofs.Common.{◌≡◌, ℕ, ◌+◌, Bool, true, false, if◌then◌else◌, List, [], ◌∷◌, ◌++◌, refl, sym, subst, arith}
use Rattle.jsh_tree.specs.declared.token.TokenKind.{TokenKind}
use Rattle.jsh_tree.specs.declared.token.TokenKind.TheVariants as token
use Rattle.jsh_grammar.specs.Classes.{is_primitive, is_modifier, is_member_modifier, is_interface_modifier}
use Rattle.jsh_grammar.specs.Productions.{a, part, deep}
use Rattle.jsh_grammar.specs.Productions as table
use Rattle.jsh_grammar.specs.Leads.{in_room}
use Rattle.jsh_recognizer.specs.declared.frame.Context.{Context}
use Rattle.jsh_recognizer.specs.declared.frame.Context.TheVariants as context
use Rattle.jsh_recognizer.specs.declared.frame.Ending.TheVariants as ending
use Rattle.jsh_recognizer.specs.declared.frame.Frame.TheVariants as frame
use Rattle.jsh_recognizer.specs.Machine.{passes, refuses, inside, goes, begins, behind_path, named_by, statement, statements, import_name, dotted_name, more_dotted, declaration, declaration_behind, begins_declaration, begins_statement, snippet, named_snippet, named_snippet_pair, method_or_variable, superclass, is_same_word, names_behind, names, more_names, parameters, parameter, parameters_inside, more_parameters, class_body, class_member, members, named_member, field_or_method, method_body, constructor_body, first_call, this_first, super_first, interface_body, signed, signature, signatures}
use Rattle.jsh_recognizer.specs.Meanings as meant
use Rattle.jsh_recognizer.specs.Meanings.{Stack, Follows, by_token, by_class, by_part, by_deep, Own, Paths, More, statement_part}
use Rattle.jsh_recognizer.proofs.MeantStep.{under, reads_equal, deep_to_part, appended_assoc, appended_nothing}
use Rattle.jsh_recognizer.proofs.MeantOwn.{path_own}
use Rattle.jsh_recognizer.proofs.MeantViews.{primitive_named}
use Rattle.jsh_recognizer.proofs.MeantOperands.{name_reads, more_reads, stem_other, stem_called, ended, of_effect, of_expression}
use Rattle.jsh_recognizer.proofs.MeantMoves.{as_own, Right, taken_flat, taken_deeper, inside_flat, inside_deeper, same_move}
use Rattle.jsh_recognizer.proofs.MeantStatements.{choose, place_more, pair_opened, of_snippet, statement_right, statements_right}
use Rattle.jsh_recognizer.proofs.MeantInner.{expression_takes, path_takes}

pub import_name_right : {limit : ℕ} (depth room : ℕ) → depth + room ≡ limit → (k : TokenKind) → Right limit depth room frame.Import k (import_name k)
import_name_right depth room fits token.Static = taken_flat depth room _ _ fits _ refl refl
    (λ c. (
      (
        _,
        as_own (meant.within meant.static_imported),
        λ rest whole ks f.
            by_token (by_part table.of_dotted (under ((room, a token.Identifier) ∷ []) (λ whole ks f. by_part table.last_name f) whole ks f)),
      ),
      (
        (
          _,
          as_own (meant.within meant.static_imported),
          λ rest whole ks f.
              by_token (by_part table.of_dotted (under ((room, a token.Identifier) ∷ []) (λ whole ks f. by_part table.last_star f) whole ks f)),
        ),
        (
          _,
          as_own (meant.within meant.static_imported),
          λ rest whole ks f.
              by_token (by_part table.of_dotted (under ((room, a token.Identifier) ∷ []) (λ whole ks f. by_part table.one_more_name f) whole ks f)),
        ),
      ),
    ))
import_name_right depth room fits token.Identifier = taken_flat depth room _ _ fits _ refl refl
    (λ c. (
      (_, as_own (meant.within meant.imported), λ _ _ _ f. by_part table.of_dotted (by_token (by_part table.last_name f))),
      (
        (_, as_own (meant.within meant.imported), λ _ _ _ f. by_part table.of_dotted (by_token (by_part table.last_star f))),
        (_, as_own (meant.within meant.imported), λ _ _ _ f. by_part table.of_dotted (by_token (by_part table.one_more_name f))),
      ),
    ))
import_name_right depth room fits _ = tt

pub dotted_name_right : {limit : ℕ} (depth room : ℕ) → depth + room ≡ limit → (k : TokenKind) → Right limit depth room frame.DottedName k (dotted_name k)
dotted_name_right depth room fits token.Identifier = taken_flat depth room _ _ fits _ refl refl
    (λ c. (
      (_, as_own (meant.within meant.last_dotted), λ _ _ _ f. by_token f),
      (_, as_own (meant.within meant.next_dotted), λ _ _ _ f. by_token f),
    ))
dotted_name_right depth room fits token.Star = taken_flat depth room _ _ fits _ refl refl
    (λ c. (_, as_own (meant.within meant.dotted_star), λ _ _ _ f. by_token f))
dotted_name_right depth room fits _ = tt

pub more_dotted_right : {limit : ℕ} (depth room : ℕ) → depth + room ≡ limit → (k : TokenKind) → Right limit depth room frame.MoreDotted k (more_dotted k)
more_dotted_right depth room fits token.Dot = taken_flat depth room _ _ fits _ refl refl
    (λ c. (
      (_, as_own (meant.within meant.more_dotted), λ _ _ _ f. by_part table.last_name (by_token f)),
      (
        (_, as_own (meant.within meant.more_dotted), λ _ _ _ f. by_part table.last_star (by_token f)),
        (_, as_own (meant.within meant.more_dotted), λ _ _ _ f. by_part table.one_more_name (by_token f)),
      ),
    ))
more_dotted_right depth room fits token.Semicolon = taken_flat depth room _ _ fits _ refl refl
    (λ c. (_, as_own (meant.within meant.no_more_dotted), λ _ _ _ f. by_token f))
more_dotted_right depth room fits _ = tt

declaration_other : {limit : ℕ} (depth room : ℕ) → depth + room ≡ limit → (k : TokenKind) → Right limit depth room frame.Declaration k
    (if is_modifier k then goes (frame.Declaration ∷ []) else (if is_primitive k then goes (named_by (frame.MethodOrVariable ∷ [])) else refuses))
declaration_other {limit = limit} depth room fits k = choose (Right limit depth room frame.Declaration k) (is_modifier k) (goes (frame.Declaration ∷ []))
    (if is_primitive k then goes (named_by (frame.MethodOrVariable ∷ [])) else refuses)
    (λ is. taken_flat depth room _ _ fits _ refl refl (λ c. (
      (_, as_own (meant.within meant.class_declared), λ _ _ _ f. by_part table.one_more_modifier (by_class is f)),
      (
        (_, as_own (meant.within meant.interface_declared), λ _ _ _ f. by_part table.one_more_modifier (by_class is f)),
        (
          (_, as_own (meant.within meant.method_declared), λ _ _ _ f. by_part table.one_more_modifier (by_class is f)),
          (_, as_own (meant.within meant.variable_declared), λ _ _ _ f. by_part table.one_more_modifier (by_class is f)),
        ),
      ),
    )))
    (choose (Right limit depth room frame.Declaration k) (is_primitive k) (goes (named_by (frame.MethodOrVariable ∷ []))) refuses
    (λ is. taken_flat depth room _ _ fits _ refl refl (λ c. (
      (
        _,
        as_own (meant.within meant.method_declared),
        λ _ _ _ f.
            by_part table.no_modifier (by_part table.of_result (by_part table.of_type (by_class (primitive_named k is) f))),
      ),
      (
        (
          _,
          as_own (meant.within meant.variable_declared),
          λ _ _ _ f.
              by_part table.no_modifier (by_part table.of_bare (by_part table.of_type (by_class (primitive_named k is) f))),
        ),
        (
          _,
          as_own (meant.within meant.variable_declared),
          λ _ _ _ f.
              by_part table.no_modifier (by_part table.of_initialized (by_part table.of_type (by_class (primitive_named k is) f))),
        ),
      ),
    ))) tt)

pub declaration_right : {limit : ℕ} (depth room : ℕ) → depth + room ≡ limit → (k : TokenKind) → Right limit depth room frame.Declaration k (declaration k)
declaration_right depth room fits token.Class = taken_flat depth room _ _ fits _ refl refl
    (λ c. (_, as_own (meant.within meant.class_declared), λ _ _ _ f. by_part table.no_modifier (by_token f)))
declaration_right depth room fits token.Interface = taken_flat depth room _ _ fits _ refl refl
    (λ c. (_, as_own (meant.within meant.interface_declared), λ _ _ _ f. by_part table.no_modifier (by_token f)))
declaration_right depth room fits token.Void = taken_flat depth room _ _ fits _ refl refl
    (λ c. (_, as_own (meant.within meant.method_declared), λ _ _ _ f. by_part table.no_modifier (by_part table.of_void (by_token f))))
declaration_right depth room fits token.Var = taken_flat depth room _ _ fits _ refl refl
    (λ c. (_, as_own (meant.within meant.variable_declared), λ _ _ _ f. by_part table.no_modifier (by_part table.of_inferred (by_token f))))
declaration_right depth room fits k = declaration_other depth room fits k

pub declaration_behind_right : {limit : ℕ} (depth room : ℕ) → depth + room ≡ limit → (k : TokenKind) →
    Right limit depth room frame.Declaration k (declaration_behind k)
declaration_behind_right depth room fits token.Identifier = taken_flat depth room _ _ fits _ refl refl
    (λ c. (
      (
        _,
        as_own (meant.within meant.method_declared),
        λ _ _ _ f.
            by_part table.no_modifier (by_part table.of_result (by_part table.of_type (by_class refl f))),
      ),
      (
        (
          _,
          as_own (meant.within meant.variable_declared),
          λ _ _ _ f.
              by_part table.no_modifier (by_part table.of_bare (by_part table.of_type (by_class refl f))),
        ),
        (
          _,
          as_own (meant.within meant.variable_declared),
          λ _ _ _ f.
              by_part table.no_modifier (by_part table.of_initialized (by_part table.of_type (by_class refl f))),
        ),
      ),
    ))
declaration_behind_right depth room fits k = declaration_right depth room fits k

pub method_or_variable_right : {limit : ℕ} (depth room : ℕ) → depth + room ≡ limit → (k : TokenKind) →
    Right limit depth room frame.MethodOrVariable k (method_or_variable k)
method_or_variable_right depth room fits token.LeftParen = taken_flat depth room _ _ fits _ refl refl (
  (λ c. (_, as_own (meant.within meant.a_method), λ _ _ _ f. by_part table.no_parameters (by_token f))),
  (λ c. (_, as_own (meant.within meant.a_method), λ _ _ _ f. by_part table.some_parameters (by_token f))),
)
method_or_variable_right depth room fits token.Assign = taken_flat depth room _ _ fits _ refl refl
    (λ c. (_, as_own (meant.within meant.an_initialized_variable), λ _ _ _ f. by_token f))
method_or_variable_right depth room fits token.Semicolon = taken_flat depth room _ _ fits _ refl refl
    (λ c. (_, as_own (meant.within meant.a_bare_variable), λ _ _ _ f. by_token f))
method_or_variable_right depth room fits _ = tt

-- a name that begins a snippet
named_begins : {room : ℕ} {own : Stack} → Own room frame.NamedSnippet own → (rest : Stack) (whole : Bool) (ks : List TokenKind) →
    Follows whole (own ++ rest) ks →
    Follows whole ((room, part table.snippet) ∷ rest) (token.Identifier ∷ ks)
named_begins (meant.named_type (meant.of_snippet meant.a_method)) rest whole ks f =
    by_part table.of_method (by_part table.no_modifier (by_part table.of_result (by_part table.of_type (by_class refl f))))
named_begins (meant.named_type (meant.of_snippet meant.a_bare_variable)) rest whole ks f =
    by_part table.of_variable (by_part table.no_modifier (by_part table.of_bare (by_part table.of_type (by_class refl f))))
named_begins (meant.named_type (meant.of_snippet meant.an_initialized_variable)) rest whole ks f =
    by_part table.of_variable (by_part table.no_modifier (by_part table.of_initialized (by_part table.of_type (by_class refl f))))
named_begins {room = room} (meant.named_effect {stack = stack} meant.by_snippet p) rest whole ks f =
    by_part table.of_expression_snippet
    (name_reads p of_expression ((room, a token.Semicolon) ∷ rest) whole (token.Identifier ∷ ks)
    (by_token (reads_equal (appended_assoc stack ((room, a token.Semicolon) ∷ []) rest) whole ks f)))
named_begins (meant.a_part p) rest whole ks f = elim p [ ]
named_begins (meant.within p) rest whole ks f = elim p [ ]
named_begins (meant.pair_of_type p) rest whole ks f = elim p [ ]
named_begins (meant.pair_of_index p _ _) rest whole ks f = elim p [ ]

-- a statement, closed or not
opening : {room : ℕ} {rest : Stack} {whole : Bool} {ks : List TokenKind} (closed : Bool) → Follows whole ((room, part (statement_part closed)) ∷ rest) ks →
    Follows whole ((room, part table.statement) ∷ rest) ks
opening true f = by_part table.of_closed f
opening false f = f

snippet_other : {limit : ℕ} (depth room : ℕ) → depth + room ≡ limit → (k : TokenKind) → Right limit depth room frame.Snippet k
    (if begins_declaration k then declaration k else (if begins_statement k then statement k else inside 0 ((0, frame.Expect token.Semicolon) ∷ [])
    (begins context.Expression k)))
snippet_other {limit = limit} depth room fits k = choose (Right limit depth room frame.Snippet k) (begins_declaration k) (declaration k)
    (if begins_statement k then statement k else inside 0 ((0, frame.Expect token.Semicolon) ∷ []) (begins context.Expression k))
    (λ is. same_move depth room _ _ fits frame.Declaration (declaration k) (declaration_right depth room fits k) refl
    (λ c. (
      (_, as_own (meant.a_part meant.a_snippet), λ _ _ _ f. by_part table.of_class f),
      (
        (_, as_own (meant.a_part meant.a_snippet), λ _ _ _ f. by_part table.of_interface f),
        (
          (_, as_own (meant.a_part meant.a_snippet), λ _ _ _ f. by_part table.of_method f),
          (_, as_own (meant.a_part meant.a_snippet), λ _ _ _ f. by_part table.of_variable f),
        ),
      ),
    )))
    (choose (Right limit depth room frame.Snippet k) (begins_statement k) (statement k)
    (inside 0 ((0, frame.Expect token.Semicolon) ∷ []) (begins context.Expression k))
    (λ is. same_move depth room _ _ fits frame.Statement (statement k) (statement_right depth room fits k) refl
    (λ c. (_, as_own (meant.a_part meant.a_snippet), λ _ _ _ f. by_part table.of_statement_snippet (opening c f))))
    (inside_flat depth room _ _ fits frame.Expression ((0, frame.Expect token.Semicolon) ∷ []) (begins context.Expression k)
    (expression_takes _ (depth + 0) room (omega (arith, fits)) k) refl refl
    (λ c. (_, as_own (meant.a_part meant.a_snippet), λ _ _ _ f. by_part table.of_expression_snippet f))))

pub snippet_right : {limit : ℕ} (depth room : ℕ) → depth + room ≡ limit → (k : TokenKind) → Right limit depth room frame.Snippet k (snippet k)
snippet_right depth room fits token.Import = taken_flat depth room _ _ fits _ refl refl
    (λ c. (
      (_, as_own (meant.a_part meant.a_snippet), λ _ _ _ f. by_part table.of_import (by_token f)),
      (_, as_own (meant.a_part meant.a_snippet), λ _ _ _ f. by_part table.of_static_import (by_token f)),
    ))
snippet_right depth room fits token.Identifier = taken_flat depth room _ _ fits _ refl refl
    (λ c own is. (
      _,
      as_own (meant.a_part meant.a_snippet),
      λ rest whole ks f.
          named_begins is rest whole ks (subst (λ x. Follows whole (x ++ rest) ks) (appended_nothing own) f),
    ))
snippet_right depth room fits k = snippet_other depth room fits k

named_snippet_other : {limit : ℕ} (depth room : ℕ) → depth + room ≡ limit → (k : TokenKind) → Right limit depth room frame.NamedSnippet k
    (inside 0 ((0, frame.Expect token.Semicolon) ∷ []) (behind_path context.Expression ending.Name k))
named_snippet_other depth room fits k =
    inside_flat depth room _ _ fits (frame.Path context.Expression ending.Name) _ (behind_path context.Expression ending.Name k)
    (path_takes _ (depth + 0) room (omega (arith, fits)) context.Expression ending.Name k) refl refl
    (λ own is c. (_, as_own (meant.named_effect meant.by_snippet (path_own is)), λ _ _ _ f. f))

named_snippet_pair_other : {limit : ℕ} (depth room : ℕ) → depth + room ≡ limit → (k : TokenKind) → Right limit depth room frame.NamedSnippetPair k
    (inside 1 ((1, frame.Expect token.RightBracket) ∷ (0, frame.Path context.Expression ending.Place) ∷ (0, frame.Expect token.Semicolon) ∷ [])
    (begins context.Expression k))
named_snippet_pair_other {limit = limit} depth room fits k = inside_deeper depth room _ _ fits frame.Expression _ (begins context.Expression k)
    (λ r fits. expression_takes limit (depth + 1) r fits k) refl refl
    (λ r own is c. (_, as_own (meant.pair_of_index meant.pair_by_snippet (place_more (path_own is)) meant.indexed), λ rest whole ks f. deep_to_part whole ks f))

pub named_snippet_right : {limit : ℕ} (depth room : ℕ) → depth + room ≡ limit → (k : TokenKind) → Right limit depth room frame.NamedSnippet k (named_snippet k)
named_snippet_right depth room fits token.Identifier = taken_flat depth room _ _ fits _ refl refl
    (λ c. (
      (_, as_own (meant.named_type (meant.of_snippet meant.a_method)), λ _ _ _ f. by_part table.no_brackets (by_token f)),
      (
        (_, as_own (meant.named_type (meant.of_snippet meant.a_bare_variable)), λ _ _ _ f. by_part table.no_brackets (by_token f)),
        (_, as_own (meant.named_type (meant.of_snippet meant.an_initialized_variable)), λ _ _ _ f. by_part table.no_brackets (by_token f)),
      ),
    ))
named_snippet_right depth room fits token.LeftBracket = taken_flat depth room _ _ fits _ refl refl
    (λ c own is. let h = pair_opened of_snippet is in
    (h.0, as_own h.1, λ rest whole ks f. h.2 rest whole ks (subst (λ x. Follows whole (x ++ rest) ks) (appended_nothing own) f)))
named_snippet_right depth room fits token.Semicolon = taken_flat depth room _ _ fits _ refl refl
    (λ c. let e = ended room context.Expression ending.Name refl in (
      _,
      as_own (meant.named_effect meant.by_snippet (meant.as_it_ends (meant.no_more e.1))),
      λ rest whole ks f.
          reads_equal (sym (appended_assoc e.0 ((room, a token.Semicolon) ∷ []) rest)) whole (token.Semicolon ∷ ks)
          (e.2 _ whole (token.Semicolon ∷ ks) (by_token f)),
    ))
named_snippet_right depth room fits k = named_snippet_other depth room fits k

pub named_snippet_pair_right : {limit : ℕ} (depth room : ℕ) → depth + room ≡ limit → (k : TokenKind) →
    Right limit depth room frame.NamedSnippetPair k (named_snippet_pair k)
named_snippet_pair_right depth room fits token.RightBracket = taken_flat depth room _ _ fits _ refl refl
    (λ c. (
      (_, as_own (meant.pair_of_type (meant.paired_snippet (meant.of_snippet meant.a_method))), λ _ _ _ f. by_token f),
      (
        (_, as_own (meant.pair_of_type (meant.paired_snippet (meant.of_snippet meant.a_bare_variable))), λ _ _ _ f. by_token f),
        (_, as_own (meant.pair_of_type (meant.paired_snippet (meant.of_snippet meant.an_initialized_variable))), λ _ _ _ f. by_token f),
      ),
    ))
named_snippet_pair_right depth room fits k = named_snippet_pair_other depth room fits k

pub superclass_right : {limit : ℕ} (depth room : ℕ) → depth + room ≡ limit → (k : TokenKind) → Right limit depth room frame.Superclass k (superclass k)
superclass_right depth room fits token.Extends = taken_flat depth room _ _ fits _ refl refl
    (λ c. (_, as_own (meant.within meant.a_superclass), λ _ _ _ f. by_part table.of_superclass (by_token f)))
superclass_right depth room fits _ =
    λ fs closed stack whole ks means follows. (closed, _, stack, as_own (meant.within meant.a_superclass), means, by_part table.no_superclass follows)

same_word : (word k : TokenKind) → is_same_word word k ≡ true → word ≡ k
same_word token.Implements token.Implements e = refl
same_word token.Implements _ e = absurd cc
same_word token.Extends token.Extends e = refl
same_word token.Extends _ e = absurd cc
same_word token.Throws token.Throws e = refl
same_word token.Throws _ e = absurd cc
same_word _ k e = absurd cc

pub names_behind_right : {limit : ℕ} (depth room : ℕ) → depth + room ≡ limit → (word k : TokenKind) →
    Right limit depth room (frame.NamesBehind word) k (names_behind word k)
names_behind_right {limit = limit} depth room fits word k =
    choose (Right limit depth room (frame.NamesBehind word) k) (is_same_word word k) (goes (frame.Names ∷ [])) passes
    (λ is. taken_flat depth room _ _ fits _ refl refl
    (λ c. (
      _,
      as_own (meant.within meant.some_names_behind),
      λ rest whole ks f.
          subst (λ x. Follows whole ((room, part (table.names_behind word)) ∷ rest) (x ∷ ks)) (same_word word k is) (by_part table.some_names (by_token f)),
    )))
    (λ fs closed stack whole ks means follows.
    (closed, _, stack, as_own (meant.within meant.some_names_behind), means, by_part table.no_names follows))

pub names_right : {limit : ℕ} (depth room : ℕ) → depth + room ≡ limit → (k : TokenKind) → Right limit depth room frame.Names k (names k)
names_right depth room fits token.Identifier = taken_flat depth room _ _ fits _ refl refl
    (λ c. (
      (_, as_own (meant.a_part meant.some_names), λ _ _ _ f. by_part table.last_listed_name (by_token f)),
      (_, as_own (meant.a_part meant.some_names), λ _ _ _ f. by_part table.one_more_listed_name (by_token f)),
    ))
names_right depth room fits _ = tt

pub more_names_right : {limit : ℕ} (depth room : ℕ) → depth + room ≡ limit → (k : TokenKind) → Right limit depth room frame.MoreNames k (more_names k)
more_names_right depth room fits token.Comma = taken_flat depth room _ _ fits _ refl refl
    (λ c. (_, as_own (meant.within meant.more_names), λ _ _ _ f. by_token f))
more_names_right depth room fits _ = λ fs closed stack whole ks means follows. (closed, [], stack, as_own (meant.within meant.no_more_names), means, follows)

pub parameters_right : {limit : ℕ} (depth room : ℕ) → depth + room ≡ limit → (k : TokenKind) → Right limit depth room frame.Parameters k (parameters k)
parameters_right depth room fits token.LeftParen = taken_flat depth room _ _ fits _ refl refl
    (λ c. (
      (_, as_own (meant.a_part meant.some_parameters), λ _ _ _ f. by_part table.no_parameters (by_token f)),
      (_, as_own (meant.a_part meant.some_parameters), λ _ _ _ f. by_part table.some_parameters (by_token f)),
    ))
parameters_right depth room fits _ = tt

parameter_other : {limit : ℕ} (depth room : ℕ) → depth + room ≡ limit → (k : TokenKind) → Right limit depth room frame.Parameter k
    (if is_primitive k then goes (named_by (frame.MoreParameters ∷ [])) else refuses)
parameter_other {limit = limit} depth room fits k =
    choose (Right limit depth room frame.Parameter k) (is_primitive k) (goes (named_by (frame.MoreParameters ∷ []))) refuses
    (λ is. taken_flat depth room _ _ fits _ refl refl (λ c. (
      (
        _,
        as_own (meant.within meant.a_parameter),
        λ _ _ _ f.
            by_part table.last_parameter (by_part table.of_parameter (by_part table.of_type (by_class (primitive_named k is) f))),
      ),
      (
        _,
        as_own (meant.within meant.a_parameter),
        λ _ _ _ f.
            by_part table.one_more_parameter (by_part table.of_parameter (by_part table.of_type (by_class (primitive_named k is) f))),
      ),
    )))
    tt

pub parameter_right : {limit : ℕ} (depth room : ℕ) → depth + room ≡ limit → (k : TokenKind) → Right limit depth room frame.Parameter k (parameter k)
parameter_right depth room fits token.Final = taken_flat depth room _ _ fits _ refl refl
    (λ c. (
      (_, as_own (meant.within meant.a_parameter), λ _ _ _ f. by_part table.last_parameter (by_part table.of_final_parameter (by_token f))),
      (_, as_own (meant.within meant.a_parameter), λ _ _ _ f. by_part table.one_more_parameter (by_part table.of_final_parameter (by_token f))),
    ))
parameter_right depth room fits token.Identifier = taken_flat depth room _ _ fits _ refl refl
    (λ c. (
      (
        _,
        as_own (meant.within meant.a_parameter),
        λ _ _ _ f.
            by_part table.last_parameter (by_part table.of_parameter (by_part table.of_type (by_class refl f))),
      ),
      (
        _,
        as_own (meant.within meant.a_parameter),
        λ _ _ _ f.
            by_part table.one_more_parameter (by_part table.of_parameter (by_part table.of_type (by_class refl f))),
      ),
    ))
parameter_right depth room fits k = parameter_other depth room fits k

parameters_inside_other : {limit : ℕ} (depth room : ℕ) → depth + room ≡ limit → (k : TokenKind) → Right limit depth room frame.ParametersInside k (parameter k)
parameters_inside_other depth room fits k = same_move depth room _ _ fits frame.Parameter (parameter k) (parameter_right depth room fits k) refl
    (λ c. (_, as_own (meant.within meant.parameters_inside), λ _ _ _ f. f))

pub parameters_inside_right : {limit : ℕ} (depth room : ℕ) → depth + room ≡ limit → (k : TokenKind) →
    Right limit depth room frame.ParametersInside k (parameters_inside k)
parameters_inside_right depth room fits token.RightParen = taken_flat depth room _ _ fits _ refl refl
    (λ c. (_, as_own (meant.within meant.no_parameter), λ _ _ _ f. by_token f))
parameters_inside_right depth room fits k = parameters_inside_other depth room fits k

pub more_parameters_right : {limit : ℕ} (depth room : ℕ) → depth + room ≡ limit → (k : TokenKind) →
    Right limit depth room frame.MoreParameters k (more_parameters k)
more_parameters_right depth room fits token.RightParen = taken_flat depth room _ _ fits _ refl refl
    (λ c. (_, as_own (meant.within meant.last_parameter), λ _ _ _ f. by_token f))
more_parameters_right depth room fits token.Comma = taken_flat depth room _ _ fits _ refl refl
    (λ c. (_, as_own (meant.within meant.next_parameter), λ _ _ _ f. by_token f))
more_parameters_right depth room fits _ = tt

pub method_body_right : {limit : ℕ} (depth room : ℕ) → depth + room ≡ limit → (k : TokenKind) → Right limit depth room frame.MethodBody k (method_body k)
method_body_right depth room fits token.Semicolon = taken_flat depth room _ _ fits _ refl refl
    (λ c. (_, as_own (meant.within meant.no_method_body), λ _ _ _ f. by_token f))
method_body_right depth room fits token.LeftBrace = taken_deeper depth room _ _ fits _ refl refl
    (λ r c. (_, as_own (meant.within meant.method_body), λ _ _ _ f. by_deep table.of_statements (by_token f)))
method_body_right depth room fits _ = tt

pub class_body_right : {limit : ℕ} (depth room : ℕ) → depth + room ≡ limit → (k : TokenKind) → Right limit depth room frame.ClassBody k (class_body k)
class_body_right depth room fits token.LeftBrace = taken_flat depth room _ _ fits _ refl refl
    (λ c. (_, as_own (meant.a_part meant.a_class_body), λ _ _ _ f. by_part table.of_class_body (by_token f)))
class_body_right depth room fits _ = tt

pub constructor_body_right : {limit : ℕ} (depth room : ℕ) → depth + room ≡ limit → (k : TokenKind) →
    Right limit depth room frame.ConstructorBody k (constructor_body k)
constructor_body_right depth room fits token.LeftBrace = taken_flat depth room _ _ fits _ refl refl
    (λ c. (_, as_own (meant.a_part meant.a_constructor_body), λ _ _ _ f. by_part table.of_constructor_body (by_token f)))
constructor_body_right depth room fits _ = tt

pub interface_body_right : {limit : ℕ} (depth room : ℕ) → depth + room ≡ limit → (k : TokenKind) →
    Right limit depth room frame.InterfaceBody k (interface_body k)
interface_body_right depth room fits token.LeftBrace = taken_flat depth room _ _ fits _ refl refl
    (λ c. (_, as_own (meant.a_part meant.an_interface_body), λ _ _ _ f. by_part table.of_interface_body (by_token f)))
interface_body_right depth room fits _ = tt

pub field_or_method_right : {limit : ℕ} (depth room : ℕ) → depth + room ≡ limit → (k : TokenKind) →
    Right limit depth room frame.FieldOrMethod k (field_or_method k)
field_or_method_right depth room fits token.LeftParen = taken_flat depth room _ _ fits _ refl refl (
  (λ c. (
    (_, as_own (meant.within meant.an_abstract_method), λ _ _ _ f. by_part table.no_parameters (by_token f)),
    (_, as_own (meant.within meant.a_whole_method), λ _ _ _ f. by_part table.no_parameters (by_token f)),
  )),
  (λ c. (
    (_, as_own (meant.within meant.an_abstract_method), λ _ _ _ f. by_part table.some_parameters (by_token f)),
    (_, as_own (meant.within meant.a_whole_method), λ _ _ _ f. by_part table.some_parameters (by_token f)),
  )),
)
field_or_method_right depth room fits token.Assign = taken_flat depth room _ _ fits _ refl refl
    (λ c. (_, as_own (meant.within meant.an_initialized_field), λ _ _ _ f. by_token f))
field_or_method_right depth room fits token.Semicolon = taken_flat depth room _ _ fits _ refl refl
    (λ c. (_, as_own (meant.within meant.a_bare_field), λ _ _ _ f. by_token f))
field_or_method_right depth room fits _ = tt

pub named_member_right : {limit : ℕ} (depth room : ℕ) → depth + room ≡ limit → (k : TokenKind) → Right limit depth room frame.NamedMember k (named_member k)
named_member_right depth room fits token.LeftParen = taken_flat depth room _ _ fits _ refl refl (
  (λ c. (_, as_own (meant.within meant.named_constructor), λ _ _ _ f. by_part table.no_parameters (by_token f))),
  (λ c. (_, as_own (meant.within meant.named_constructor), λ _ _ _ f. by_part table.some_parameters (by_token f))),
)
named_member_right depth room fits token.LeftBracket = taken_flat depth room _ _ fits _ refl refl (
  (λ c. (_, as_own (meant.within meant.named_bare_field), λ _ _ _ f. by_part table.more_brackets (by_token f))),
  (
    (λ c. (_, as_own (meant.within meant.named_field), λ _ _ _ f. by_part table.more_brackets (by_token f))),
    (
      (λ c. (_, as_own (meant.within meant.named_abstract_method), λ _ _ _ f. by_part table.more_brackets (by_token f))),
      (λ c. (_, as_own (meant.within meant.named_method), λ _ _ _ f. by_part table.more_brackets (by_token f))),
    ),
  ),
)
named_member_right depth room fits token.Identifier = taken_flat depth room _ _ fits _ refl refl (
  (λ c. (_, as_own (meant.within meant.named_bare_field), λ _ _ _ f. by_part table.no_brackets (by_token f))),
  (
    (λ c. (_, as_own (meant.within meant.named_field), λ _ _ _ f. by_part table.no_brackets (by_token f))),
    (
      (λ c. (_, as_own (meant.within meant.named_abstract_method), λ _ _ _ f. by_part table.no_brackets (by_token f))),
      (λ c. (_, as_own (meant.within meant.named_method), λ _ _ _ f. by_part table.no_brackets (by_token f))),
    ),
  ),
)
named_member_right depth room fits _ = tt

class_member_other : {limit : ℕ} (depth room : ℕ) → depth + room ≡ limit → (k : TokenKind) → Right limit depth room frame.ClassMember k
    (if is_member_modifier k then goes (frame.ClassMember ∷ []) else (if is_primitive k then goes
    (named_by (frame.FieldOrMethod ∷ frame.Members ∷ [])) else refuses))
class_member_other {limit = limit} depth room fits k =
    choose (Right limit depth room frame.ClassMember k) (is_member_modifier k) (goes (frame.ClassMember ∷ []))
    (if is_primitive k then goes (named_by (frame.FieldOrMethod ∷ frame.Members ∷ [])) else refuses)
    (λ is. taken_flat depth room _ _ fits _ refl refl (λ c. (
      (_, as_own (meant.within meant.member_bare_field), λ _ _ _ f. by_part table.one_more_member_modifier (by_class is f)),
      (
        (_, as_own (meant.within meant.member_field), λ _ _ _ f. by_part table.one_more_member_modifier (by_class is f)),
        (
          (_, as_own (meant.within meant.member_abstract_method), λ _ _ _ f. by_part table.one_more_member_modifier (by_class is f)),
          (
            (_, as_own (meant.within meant.member_method), λ _ _ _ f. by_part table.one_more_member_modifier (by_class is f)),
            (_, as_own (meant.within meant.member_constructor), λ _ _ _ f. by_part table.one_more_member_modifier (by_class is f)),
          ),
        ),
      ),
    )))
    (choose (Right limit depth room frame.ClassMember k) (is_primitive k) (goes (named_by (frame.FieldOrMethod ∷ frame.Members ∷ []))) refuses
    (λ is. taken_flat depth room _ _ fits _ refl refl (
      (λ c. (
        _,
        as_own (meant.within meant.member_bare_field),
        λ _ _ _ f.
            by_part table.no_member_modifier (by_part table.of_type (by_class (primitive_named k is) f)),
      )),
      (
        (λ c. (
          _,
          as_own (meant.within meant.member_field),
          λ _ _ _ f.
              by_part table.no_member_modifier (by_part table.of_type (by_class (primitive_named k is) f)),
        )),
        (
          (λ c. (
            _,
            as_own (meant.within meant.member_abstract_method),
            λ _ _ _ f.
                by_part table.no_member_modifier (by_part table.of_result (by_part table.of_type (by_class (primitive_named k is) f))),
          )),
          (λ c. (
            _,
            as_own (meant.within meant.member_method),
            λ _ _ _ f.
                by_part table.no_member_modifier (by_part table.of_result (by_part table.of_type (by_class (primitive_named k is) f))),
          )),
        ),
      ),
    )) tt)

pub class_member_right : {limit : ℕ} (depth room : ℕ) → depth + room ≡ limit → (k : TokenKind) → Right limit depth room frame.ClassMember k (class_member k)
class_member_right depth room fits token.Void = taken_flat depth room _ _ fits _ refl refl (
  (λ c. (_, as_own (meant.within meant.member_abstract_method), λ _ _ _ f. by_part table.no_member_modifier (by_part table.of_void (by_token f)))),
  (λ c. (_, as_own (meant.within meant.member_method), λ _ _ _ f. by_part table.no_member_modifier (by_part table.of_void (by_token f)))),
)
class_member_right depth room fits token.Identifier = taken_flat depth room _ _ fits _ refl refl
    (λ c. (
      (_, as_own (meant.within meant.member_bare_field), λ _ _ _ f. by_part table.no_member_modifier (by_part table.of_type (by_class refl f))),
      (
        (_, as_own (meant.within meant.member_field), λ _ _ _ f. by_part table.no_member_modifier (by_part table.of_type (by_class refl f))),
        (
          (
            _,
            as_own (meant.within meant.member_abstract_method),
            λ _ _ _ f.
                by_part table.no_member_modifier (by_part table.of_result (by_part table.of_type (by_class refl f))),
          ),
          (
            (
              _,
              as_own (meant.within meant.member_method),
              λ _ _ _ f.
                  by_part table.no_member_modifier (by_part table.of_result (by_part table.of_type (by_class refl f))),
            ),
            (_, as_own (meant.within meant.member_constructor), λ _ _ _ f. by_part table.no_member_modifier (by_token f)),
          ),
        ),
      ),
    ))
class_member_right depth room fits k = class_member_other depth room fits k

members_other : {limit : ℕ} (depth room : ℕ) → depth + room ≡ limit → (k : TokenKind) → Right limit depth room frame.Members k (class_member k)
members_other depth room fits k = same_move depth room _ _ fits frame.ClassMember (class_member k) (class_member_right depth room fits k) refl
    (λ c. (
      (_, as_own (meant.within meant.members), λ _ _ _ f. by_part table.one_more_bare_field f),
      (
        (_, as_own (meant.within meant.members), λ _ _ _ f. by_part table.one_more_field f),
        (
          (_, as_own (meant.within meant.members), λ _ _ _ f. by_part table.one_more_abstract_method f),
          (
            (_, as_own (meant.within meant.members), λ _ _ _ f. by_part table.one_more_method f),
            (_, as_own (meant.within meant.members), λ _ _ _ f. by_part table.one_more_constructor f),
          ),
        ),
      ),
    ))

pub members_right : {limit : ℕ} (depth room : ℕ) → depth + room ≡ limit → (k : TokenKind) → Right limit depth room frame.Members k (members k)
members_right depth room fits token.RightBrace = taken_flat depth room _ _ fits _ refl refl
    (λ c. (_, as_own (meant.within meant.members), λ _ _ _ f. by_part table.no_class_member (by_token f)))
members_right depth room fits token.Semicolon = taken_flat depth room _ _ fits _ refl refl
    (λ c. (_, as_own (meant.within meant.members), λ _ _ _ f. by_part table.one_more_semicolon (by_token f)))
members_right depth room fits k = members_other depth room fits k

this_begins : {room : ℕ} {own : Stack} → Own room frame.ThisFirst own → (rest : Stack) (whole : Bool) (ks : List TokenKind) → Follows whole (own ++ rest) ks →
    Follows whole (in_room room (part table.first_call ∷ part table.statements ∷ a token.RightBrace ∷ []) ++ rest) (token.This ∷ ks)
this_begins (meant.within meant.this_called) rest whole ks f = by_part table.of_this_call (by_token f)
this_begins {room = room} (meant.this_effect {stack = stack} m) rest whole ks f =
    by_part table.no_first_call (by_part table.one_more_statement (by_part table.of_statement (by_part table.of_closed (by_part table.of_expression
    (more_reads (stem_other room (a token.This ∷ []) table.of_this) m of_effect
    ((room, a token.Semicolon) ∷ (room, part table.statements) ∷ (room, a token.RightBrace) ∷ rest) whole (token.This ∷ ks)
    (by_token (reads_equal (appended_assoc stack (in_room room (a token.Semicolon ∷ part table.statements ∷ a token.RightBrace ∷ [])) rest) whole ks f)))))))
this_begins (meant.a_part p) rest whole ks f = elim p [ ]
this_begins (meant.named_type p) rest whole ks f = elim p [ ]
this_begins (meant.named_effect p _) rest whole ks f = elim p [ ]
this_begins (meant.pair_of_type p) rest whole ks f = elim p [ ]
this_begins (meant.pair_of_index p _ _) rest whole ks f = elim p [ ]

super_begins : {room : ℕ} {own : Stack} → Own room frame.SuperFirst own → (rest : Stack) (whole : Bool) (ks : List TokenKind) → Follows whole (own ++ rest) ks →
    Follows whole (in_room room (part table.first_call ∷ part table.statements ∷ a token.RightBrace ∷ []) ++ rest) (token.Super ∷ ks)
super_begins (meant.within meant.super_called) rest whole ks f = by_part table.of_super_first_call (by_token f)
super_begins {room = room} (meant.super_effect {stack = stack} m) rest whole ks f =
    by_part table.no_first_call (by_part table.one_more_statement (by_part table.of_statement (by_part table.of_closed (by_part table.of_expression
    (more_reads
    (stem_called room
    (a token.Super ∷ a token.Dot ∷ a token.Identifier ∷ deep table.arguments ∷ []) table.of_super_call table.of_super_call_statement) m of_effect
    ((room, a token.Semicolon) ∷ (room, part table.statements) ∷ (room, a token.RightBrace) ∷ rest) whole (token.Super ∷ ks)
    (by_token (under (in_room room (a token.Dot ∷ a token.Identifier ∷ deep table.arguments ∷ []))
    (reads_equal (appended_assoc stack (in_room room (a token.Semicolon ∷ part table.statements ∷ a token.RightBrace ∷ [])) rest)) whole ks f)))))))
super_begins (meant.a_part p) rest whole ks f = elim p [ ]
super_begins (meant.named_type p) rest whole ks f = elim p [ ]
super_begins (meant.named_effect p _) rest whole ks f = elim p [ ]
super_begins (meant.pair_of_type p) rest whole ks f = elim p [ ]
super_begins (meant.pair_of_index p _ _) rest whole ks f = elim p [ ]

-- behind `this`, and behind a call
other_more : {room : ℕ} {c : Context} {own : Stack} → Paths room c ending.Other own → More room c ending.Other own
other_more (meant.as_it_ends m) = m

call_more : {room : ℕ} {c : Context} {own : Stack} → Paths room c ending.Call own → More room c ending.Call own
call_more (meant.as_it_ends m) = m

this_first_other : {limit : ℕ} (depth room : ℕ) → depth + room ≡ limit → (k : TokenKind) → Right limit depth room frame.ThisFirst k
    (inside 0 ((0, frame.Expect token.Semicolon) ∷ (0, frame.Statements) ∷ []) (behind_path context.Effect ending.Other k))
this_first_other depth room fits k = inside_flat depth room _ _ fits (frame.Path context.Effect ending.Other) _ (behind_path context.Effect ending.Other k)
    (path_takes _ (depth + 0) room (omega (arith, fits)) context.Effect ending.Other k) refl refl
    (λ own is c. (_, as_own (meant.this_effect (other_more (path_own is))), λ _ _ _ f. f))

pub this_first_right : {limit : ℕ} (depth room : ℕ) → depth + room ≡ limit → (k : TokenKind) → Right limit depth room frame.ThisFirst k (this_first k)
this_first_right depth room fits token.LeftParen = taken_deeper depth room _ _ fits _ refl refl
    (λ r. (
      (λ c. (_, as_own (meant.within meant.this_called), λ _ _ _ f. by_deep table.no_arguments (by_token f))),
      (λ c. (_, as_own (meant.within meant.this_called), λ _ _ _ f. by_deep table.some_arguments (by_token f))),
    ))
this_first_right depth room fits k = this_first_other depth room fits k

pub super_first_right : {limit : ℕ} (depth room : ℕ) → depth + room ≡ limit → (k : TokenKind) → Right limit depth room frame.SuperFirst k (super_first k)
super_first_right depth room fits token.LeftParen = taken_deeper depth room _ _ fits _ refl refl
    (λ r. (
      (λ c. (_, as_own (meant.within meant.super_called), λ _ _ _ f. by_deep table.no_arguments (by_token f))),
      (λ c. (_, as_own (meant.within meant.super_called), λ _ _ _ f. by_deep table.some_arguments (by_token f))),
    ))
super_first_right depth room fits token.Dot = taken_flat depth room _ _ fits _ refl refl
    (λ own is c. (_, as_own (meant.super_effect (call_more (path_own is))), λ _ _ _ f. by_token f))
super_first_right depth room fits _ = tt

first_call_other : {limit : ℕ} (depth room : ℕ) → depth + room ≡ limit → (k : TokenKind) → Right limit depth room frame.FirstCall k (statements k)
first_call_other depth room fits k = same_move depth room _ _ fits frame.Statements (statements k) (statements_right depth room fits k) refl
    (λ c. (_, as_own (meant.within meant.first_call), λ _ _ _ f. by_part table.no_first_call f))

pub first_call_right : {limit : ℕ} (depth room : ℕ) → depth + room ≡ limit → (k : TokenKind) → Right limit depth room frame.FirstCall k (first_call k)
first_call_right depth room fits token.This = taken_flat depth room _ _ fits _ refl refl
    (λ c own is. (
      _,
      as_own (meant.within meant.first_call),
      λ rest whole ks f.
          this_begins is rest whole ks (subst (λ x. Follows whole (x ++ rest) ks) (appended_nothing own) f),
    ))
first_call_right depth room fits token.Super = taken_flat depth room _ _ fits _ refl refl
    (λ c own is. (
      _,
      as_own (meant.within meant.first_call),
      λ rest whole ks f.
          super_begins is rest whole ks (subst (λ x. Follows whole (x ++ rest) ks) (appended_nothing own) f),
    ))
first_call_right depth room fits k = first_call_other depth room fits k

signature_other : {limit : ℕ} (depth room : ℕ) → depth + room ≡ limit → (k : TokenKind) → Right limit depth room frame.Signature k
    (if is_interface_modifier k then goes (frame.Signature ∷ []) else (if is_primitive k then goes (named_by signed) else refuses))
signature_other {limit = limit} depth room fits k = choose (Right limit depth room frame.Signature k) (is_interface_modifier k) (goes (frame.Signature ∷ []))
    (if is_primitive k then goes (named_by signed) else refuses)
    (λ is. taken_flat depth room _ _ fits _ refl refl (λ c. (
      _,
      as_own (meant.within meant.signature),
      λ _ _ _ f.
          by_part table.one_more_interface_modifier (by_class is f),
    )))
    (choose (Right limit depth room frame.Signature k) (is_primitive k) (goes (named_by signed)) refuses
    (λ is. taken_flat depth room _ _ fits _ refl refl (λ c. (
      _,
      as_own (meant.within meant.signature),
      λ _ _ _ f.
          by_part table.no_interface_modifier (by_part table.of_result (by_part table.of_type (by_class (primitive_named k is) f))),
    ))) tt)

pub signature_right : {limit : ℕ} (depth room : ℕ) → depth + room ≡ limit → (k : TokenKind) → Right limit depth room frame.Signature k (signature k)
signature_right depth room fits token.Void = taken_flat depth room _ _ fits _ refl refl
    (λ c. (_, as_own (meant.within meant.signature), λ _ _ _ f. by_part table.no_interface_modifier (by_part table.of_void (by_token f))))
signature_right depth room fits token.Identifier = taken_flat depth room _ _ fits _ refl refl
    (λ c. (
      _,
      as_own (meant.within meant.signature),
      λ _ _ _ f.
          by_part table.no_interface_modifier (by_part table.of_result (by_part table.of_type (by_class refl f))),
    ))
signature_right depth room fits k = signature_other depth room fits k

signatures_other : {limit : ℕ} (depth room : ℕ) → depth + room ≡ limit → (k : TokenKind) → Right limit depth room frame.Signatures k (signature k)
signatures_other depth room fits k = same_move depth room _ _ fits frame.Signature (signature k) (signature_right depth room fits k) refl
    (λ c. (_, as_own (meant.within meant.signatures), λ _ _ _ f. by_part table.one_more_interface_method f))

pub signatures_right : {limit : ℕ} (depth room : ℕ) → depth + room ≡ limit → (k : TokenKind) → Right limit depth room frame.Signatures k (signatures k)
signatures_right depth room fits token.RightBrace = taken_flat depth room _ _ fits _ refl refl
    (λ c. (_, as_own (meant.within meant.signatures), λ _ _ _ f. by_part table.no_interface_method (by_token f)))
signatures_right depth room fits k = signatures_other depth room fits k
