-- How the readers of methods and members go on, step by step, in the words of the contracts.
use Rattle.std.proofs.Common.{◌≡◌, ℕ, zero, suc, true, false, ◌||◌, List, [], ◌∷◌, ◌++◌, Option, Some, None, length, drop, refl, sym, ap, ◌∙◌}
use Rattle.jsh_tree.specs.declared.token.Token.{Token}
use Rattle.jsh_tree.specs.declared.expression.Identifier.{Identifier}
use Rattle.jsh_tree.specs.declared.expression.TypeUse.{TypeUse}
use Rattle.jsh_tree.specs.declared.statement.BlockStatement.{BlockStatement}
use Rattle.jsh_tree.specs.declared.statement.Variable.{Variable}
use Rattle.jsh_tree.specs.declared.declaration.ModifierUse.{ModifierUse}
use Rattle.jsh_tree.specs.declared.declaration.Parameter.{Parameter}
use Rattle.jsh_tree.specs.declared.declaration.ConstructorCall.{ConstructorCall}
use Rattle.jsh_tree.specs.declared.declaration.MemberDeclaration.{MemberDeclaration}
use Rattle.jsh_tree.specs.declared.declaration.MemberDeclaration.TheVariants as member
use Rattle.jsh_parse.specs.Leaves.{names_type}
use Rattle.jsh_parse.specs.Marks.{is_left_paren, is_left_brace, is_right_brace, is_this, is_super}
use Rattle.jsh_parse.specs.Forms.{is_semicolon, is_var}
use Rattle.jsh_parse.specs.Reader.{Read, and_then, accept, sees, brackets}
use Rattle.jsh_parse.specs.Reading.{name_read, arguments_at}
use Rattle.jsh_parse.specs.StatementReading.{statements_at, variable_at}
use Rattle.jsh_parse.proofs.Onward.{prepend, prepend_none}
use Rattle.jsh_decl.specs.declared.modifiers.Place.TheVariants as place
use Rattle.jsh_decl.specs.Words.{is_void, is_throws}
use Rattle.jsh_decl.specs.DeclarationReader.{begins_method, begins_constructor, members_read}
use Rattle.jsh_decl.specs.DeclarationReading.{allowed, modifiers_at, names_behind_at, parameters_at, result_at, body_at, method_at, first_call_at, constructor_at, field_of, field_at, member_at, member_behind_at, ends_members, members_at}
use Rattle.jsh_decl.proofs.DeclarationTurns.{append_one, modifiers_pair}

-- a method

pub method_by : (text : List ℕ) (room : ℕ) (modifiers : List ModifierUse) (ts : List Token) →
    method_at text room modifiers ts ≡ and_then (result_at text ts) (λ result rest. and_then (name_read text rest)
    (λ n behind. and_then (parameters_at text behind) (λ parameters more. and_then (names_behind_at is_throws text more)
    (λ throws last. and_then (body_at text room last) (λ inside end. Some (
      record {
        modifiers = modifiers;
        result = result;
        name = n;
        parameters = parameters;
        throws = throws;
        body = inside;
      },
      end,
    ))))))
unfolding method_at result_at parameters_at names_behind_at body_at
method_by text room modifiers ts = refl

module _ (ts : List Token) where
  pub method_by_void : sees is_void ts ≡ true → begins_method ts ≡ true
  method_by_void h = rw h refl

  pub method_by_type : (t : Token) (rest : List Token) → ts ≡ t ∷ rest → sees is_void ts ≡ false → names_type t.kind ≡ true →
      begins_method ts ≡ begins_constructor (brackets rest).1
  method_by_type t rest e h k = ap begins_method e ∙ typed (sym (ap (sees is_void) e) ∙ h)
    where
      typed : is_void t.kind ≡ false → begins_method (t ∷ rest) ≡ begins_constructor (brackets rest).1
      typed h = of_name (brackets rest).1 refl
        where
          of_name : (us : List Token) → (brackets rest).1 ≡ us → begins_method (t ∷ rest) ≡ begins_constructor (brackets rest).1
          of_name [] e = rw (h, k, e) refl
          of_name (u ∷ us) e = rw (h, k, e) refl

  pub no_method : (t : Token) (rest : List Token) → ts ≡ t ∷ rest → sees is_void ts ≡ false → names_type t.kind ≡ false → begins_method ts ≡ false
  no_method t rest e h k = ap begins_method e ∙ untyped (sym (ap (sees is_void) e) ∙ h)
    where
      untyped : is_void t.kind ≡ false → begins_method (t ∷ rest) ≡ false
      untyped h = rw (h, k) refl

  pub method_nowhere : ts ≡ [] → begins_method ts ≡ false
  method_nowhere e = ap begins_method e

-- the call of another constructor

module _ (text : List ℕ) (room : ℕ) (ts : List Token) where
  pub call_nowhere : ts ≡ [] → first_call_at text room ts ≡ Some (None, ts)
  unfolding first_call_at
  call_nowhere e = rw e refl

  pub call_other : (t : Token) (rest : List Token) → ts ≡ t ∷ rest → is_this t.kind || is_super t.kind ≡ false → first_call_at text room ts ≡ Some (None, ts)
  unfolding first_call_at
  call_other t rest e h = rw (e, h) refl

  pub call_bare : (t : Token) (rest : List Token) → ts ≡ t ∷ rest → is_this t.kind || is_super t.kind ≡ true → sees is_left_paren rest ≡ false →
      first_call_at text room ts ≡ Some (None, ts)
  unfolding first_call_at
  call_bare t rest e h k = rw (e, h, k) refl

  pub call_stands : (t : Token) (rest : List Token) → ts ≡ t ∷ rest → is_this t.kind || is_super t.kind ≡ true → sees is_left_paren rest ≡ true →
      first_call_at text room ts ≡ and_then (arguments_at text room rest) (λ arguments behind. and_then (accept is_semicolon behind)
      (λ u end. Some (Some (record { span = t.span; is_super = is_super t.kind; arguments = arguments }), end)))
  unfolding first_call_at
  call_stands t rest e h k = rw (e, h, k) refl

-- a constructor

pub constructor_flat : (text : List ℕ) (room : ℕ) (modifiers : List ModifierUse) (ts : List Token) → room ≡ zero → constructor_at text room modifiers ts ≡ None
unfolding constructor_at
constructor_flat text room modifiers ts z = rw z refl

pub constructor_by : (text : List ℕ) (room inner : ℕ) (modifiers : List ModifierUse) (ts : List Token) → room ≡ suc inner →
    constructor_at text room modifiers ts ≡ and_then (name_read text ts) (λ n rest. and_then (parameters_at text rest)
    (λ parameters behind. and_then (names_behind_at is_throws text behind) (λ throws more. and_then (accept is_left_brace more)
    (λ t front. and_then (first_call_at text inner front) (λ first body. and_then (statements_at text inner body)
    (λ inside last. and_then (accept is_right_brace last) (λ u end. Some (
      member.Constructor (record {
        modifiers = modifiers;
        name = n;
        parameters = parameters;
        throws = throws;
        brace = t.span;
        first = first;
        statements = inside;
      }),
      end,
    ))))))))
unfolding constructor_at parameters_at names_behind_at first_call_at
constructor_by text room inner modifiers ts z = rw z refl

-- all of its parts in turn
pub constructor_reads : (text : List ℕ) (inner : ℕ) (modifiers : List ModifierUse) (ts : List Token) (n : Identifier) (a : List Token)
    (parameters : List Parameter) (b : List Token) (throws : List Identifier) (d : List Token) (t : Token) (f : List Token)
    (first : Option ConstructorCall) (g : List Token) (inside : List BlockStatement) (h : List Token) (u : Token) (end : List Token) (room : ℕ) →
    room ≡ suc inner → name_read text ts ≡ Some (n, a) → parameters_at text a ≡ Some (parameters, b) → names_behind_at is_throws text b ≡ Some (throws, d) →
    accept is_left_brace d ≡ Some (t, f) → first_call_at text inner f ≡ Some (first, g) → statements_at text inner g ≡ Some (inside, h) →
    accept is_right_brace h ≡ Some (u, end) → constructor_at text room modifiers ts ≡ Some (
      member.Constructor (record {
        modifiers = modifiers;
        name = n;
        parameters = parameters;
        throws = throws;
        brace = t.span;
        first = first;
        statements = inside;
      }),
      end,
    )
constructor_reads text inner modifiers ts n a parameters b throws d t f first g inside h u end room z i j k l o p q =
    constructor_by text room inner modifiers ts z ∙ rw (i, j, k, l, o, p, q) refl

-- a field

pub field_by : (text : List ℕ) (room : ℕ) (modifiers : List ModifierUse) (ts : List Token) →
    field_at text room modifiers ts ≡ and_then (variable_at text room ts) (λ v rest. and_then (accept is_semicolon rest)
    (λ u end. field_of modifiers v v.written end))
unfolding field_at
field_by text room modifiers ts = of_variable (variable_at text room ts) refl
  where
    of_type : (v : Variable) (written : Option TypeUse) (u : Token) (rest end : List Token) → variable_at text room ts ≡ Some (v, rest) →
        accept is_semicolon rest ≡ Some (u, end) → v.written ≡ written →
        field_at text room modifiers ts ≡ and_then (variable_at text room ts) (λ v rest. and_then (accept is_semicolon rest)
        (λ u end. field_of modifiers v v.written end))
    of_type v None u rest end h k w = rw (h, k, w) refl
    of_type v (Some written) u rest end h k w = rw (h, k, w) refl

    of_semicolon : (v : Variable) (rest : List Token) (found : Read Token) → variable_at text room ts ≡ Some (v, rest) → accept is_semicolon rest ≡ found →
        field_at text room modifiers ts ≡ and_then (variable_at text room ts) (λ v rest. and_then (accept is_semicolon rest)
        (λ u end. field_of modifiers v v.written end))
    of_semicolon v rest None h k = rw (h, k) refl
    of_semicolon v rest (Some (u, end)) h k = of_type v v.written u rest end h k refl

    of_variable : (found : Read Variable) → variable_at text room ts ≡ found →
        field_at text room modifiers ts ≡ and_then (variable_at text room ts) (λ v rest. and_then (accept is_semicolon rest)
        (λ u end. field_of modifiers v v.written end))
    of_variable None h = rw h refl
    of_variable (Some (v, rest)) h = of_semicolon v rest (accept is_semicolon rest) h refl

pub unwritten_field : (modifiers : List ModifierUse) (v : Variable) (rest : List Token) → v.written ≡ None → field_of modifiers v v.written rest ≡ None
unwritten_field modifiers v rest h = rw h refl

pub written_field : (modifiers : List ModifierUse) (v : Variable) (written : TypeUse) (rest : List Token) → v.written ≡ Some written →
    field_of modifiers v v.written rest ≡ Some (member.Field (record { modifiers = modifiers; written = written; name = v.name; initial = v.initial }), rest)
written_field modifiers v written rest h = rw h refl

-- a member

module _ (text : List ℕ) (room : ℕ) (modifiers : List ModifierUse) (ts : List Token) where
  pub member_constructor : begins_constructor ts ≡ true → member_behind_at text room modifiers ts ≡ constructor_at text room modifiers ts
  unfolding member_behind_at constructor_at
  member_constructor h = rw h refl

  pub member_method : begins_constructor ts ≡ false → begins_method ts ≡ true →
      member_behind_at text room modifiers ts ≡ and_then (method_at text room modifiers ts) (λ m end. Some (member.Method m, end))
  unfolding member_behind_at method_at
  member_method h k = rw (h, k) refl

  pub member_var : begins_constructor ts ≡ false → begins_method ts ≡ false → sees is_var ts ≡ true → member_behind_at text room modifiers ts ≡ None
  unfolding member_behind_at
  member_var h k v = rw (h, k, v) refl

  pub member_field : begins_constructor ts ≡ false → begins_method ts ≡ false → sees is_var ts ≡ false →
      member_behind_at text room modifiers ts ≡ field_at text room modifiers ts
  unfolding member_behind_at field_at
  member_field h k v = rw (h, k, v) refl

pub member_by : (text : List ℕ) (room : ℕ) (ts rest : List Token) (modifiers : List ModifierUse) →
    modifiers_at (allowed place.Member) ts ≡ Some (modifiers, rest) →
    member_at text room ts ≡ member_behind_at text room modifiers rest
unfolding member_at member_behind_at
member_by text room ts rest modifiers h =
    let found = modifiers_pair (allowed place.Member) ts rest modifiers h in rw found refl

-- where a token stands, a brace ends the members
pub brace_ends : (t : Token) (ts rest : List Token) → ts ≡ t ∷ rest → sees is_right_brace ts ≡ ends_members ts
brace_ends t ts rest e = rw e refl

-- the members of a class

pub members_by : (text : List ℕ) (room : ℕ) (ts : List Token) → members_at text room ts ≡ prepend [] (members_read (suc (length ts)) text room ts)
unfolding members_at
members_by text room ts = sym (prepend_none (members_read (suc (length ts)) text room ts))

append_end : (items : List MemberDeclaration) → items ++ [] ≡ items
append_end [] = refl
append_end (m ∷ items) = ap (λ more. m ∷ more) (append_end items)

module _ (text : List ℕ) (room : ℕ) (items : List MemberDeclaration) where
  pub members_zero : (ts : List Token) → prepend items (members_read zero text room ts) ≡ None
  unfolding members_read
  members_zero ts = refl

  pub members_end : (k : ℕ) (ts : List Token) → ends_members ts ≡ true → prepend items (members_read (suc k) text room ts) ≡ Some (items, ts)
  unfolding members_read
  members_end k [] h = ap (λ more. Some (more, [])) (append_end items)
  members_end k (t ∷ ts) h = rw h (ap (λ more. Some (more, t ∷ ts)) (append_end items))

  pub members_skip : (k : ℕ) (ts : List Token) → ends_members ts ≡ false → sees is_semicolon ts ≡ true →
      prepend items (members_read (suc k) text room ts) ≡ prepend items (members_read k text room (drop 1 ts))
  unfolding members_read
  members_skip k [] h s = cc
  members_skip k (t ∷ ts) h s = rw (h, s) refl

  members_step : (k : ℕ) (ts : List Token) → ends_members ts ≡ false → sees is_semicolon ts ≡ false →
      members_read (suc k) text room ts ≡ and_then (member_at text room ts)
      (λ m rest. and_then (members_read k text room rest) (λ others end. Some (m ∷ others, end)))
  unfolding members_read member_at
  members_step k [] h s = cc
  members_step k (t ∷ ts) h s = rw (h, s) refl

  pub members_fail : (k : ℕ) (ts : List Token) → ends_members ts ≡ false → sees is_semicolon ts ≡ false → member_at text room ts ≡ None →
      prepend items (members_read (suc k) text room ts) ≡ None
  members_fail k ts h s m = ap (prepend items) (members_step k ts h s) ∙ rw m refl

  pub members_more : (k : ℕ) (ts rest : List Token) (m : MemberDeclaration) → ends_members ts ≡ false → sees is_semicolon ts ≡ false →
      member_at text room ts ≡ Some (m, rest) → prepend items (members_read (suc k) text room ts) ≡ prepend (items ++ m ∷ []) (members_read k text room rest)
  members_more k ts rest m h s f = ap (prepend items) (members_step k ts h s) ∙ rw f (append_one items m (members_read k text room rest))
