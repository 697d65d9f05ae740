-- What stands behind operands, read as the parts that they are of.
use Rattle.std.proofs.Common.{◌≡◌, ℕ, zero, suc, ◌+◌, ◌-◌, ◌<◌, ◌≤◌, true, List, [], ◌∷◌, ◌++◌, refl, sym, ap, subst, arith}
use Rattle.jsh_tree.specs.declared.token.TokenKind.{TokenKind}
use Rattle.jsh_tree.specs.declared.token.TokenKind.TheVariants as token
use Rattle.jsh_grammar.specs.Classes.{is_type_name, is_assignment, is_operator, is_step}
use Rattle.jsh_grammar.specs.Productions.{Part, Symbol, a, any, part, deep, IsProduction}
use Rattle.jsh_grammar.specs.Productions as table
use Rattle.jsh_grammar.specs.Leads.{in_room}
use Rattle.jsh_recognizer.specs.declared.frame.Context.{Context}
use Rattle.jsh_recognizer.specs.declared.frame.Context.TheVariants as context
use Rattle.jsh_recognizer.specs.declared.frame.Ending.{Ending}
use Rattle.jsh_recognizer.specs.declared.frame.Ending.TheVariants as ending
use Rattle.jsh_recognizer.specs.Machine.{is_target, may_end}
use Rattle.jsh_recognizer.specs.Meanings as meaning
use Rattle.jsh_recognizer.specs.Meanings.{Stack, Follows, by_token, by_class, by_part, down_from, Choices, Behind, After, More, Paths, Unindexed, Sized, Created}
use Rattle.jsh_recognizer.proofs.MeantStep.{Reads, ReadsBehind, under, after, reads_equal, appended_assoc}

-- ---- operators

-- an operand and its operators, as a level behind which fewer stand
pub climb : (more m : ℕ) → more + m ≡ 9 → (room : ℕ) (rest : Stack) →
    Reads (in_room room (part table.unary ∷ down_from 9) ++ rest) ((room, part (table.level (suc m))) ∷ in_room room (down_from m) ++ rest)
climb zero m e room rest whole ks f =
    let nine : 9 ≡ m = omega (arith, e) in
    subst (λ n. Follows whole ((room, part (table.level (suc n))) ∷ in_room room (down_from n) ++ rest) ks) nine (by_part table.of_operand f)
climb (suc more) m e room rest whole ks f =
    by_part (table.of_level (omega (arith, e))) (climb more (suc m) (omega (arith, e)) room rest whole ks f)

-- an operator of a level behind the operators of the level and of all that bind less
at_level : (m : ℕ) → m < 10 → (k : TokenKind) → is_operator m k ≡ true → (room : ℕ) (rest : Stack) →
    ReadsBehind k (in_room room (part table.unary ∷ down_from 9) ++ rest) (in_room room (down_from m) ++ rest)
at_level zero less k is room rest whole ks f = by_part (table.of_operation less) (by_class is (climb 9 0 (omega arith) room rest whole ks f))
at_level (suc m) less k is room rest whole ks f =
    by_part (table.of_operation less) (by_class is (climb (8 - m) (suc m) (omega (arith, less)) room rest whole ks f))

-- levels without operators
skip : (more n m : ℕ) → more + n ≡ m → (room : ℕ) (rest : Stack) → Reads (in_room room (down_from n) ++ rest) (in_room room (down_from m) ++ rest)
skip zero n m e room rest = let same : n ≡ m = omega (arith, e) in reads_equal (ap (λ x. in_room room (down_from x) ++ rest) same)
skip (suc more) n zero e room rest = absurd (omega (arith, e))
skip (suc more) n (suc m) e room rest = λ whole ks f. by_part table.no_operation (skip more n m (omega (arith, e)) room rest whole ks f)

-- none at all
pub skip_all : (m room : ℕ) (rest : Stack) → Reads rest (in_room room (down_from m) ++ rest)
skip_all zero room rest whole ks f = by_part table.no_operation f
skip_all (suc m) room rest whole ks f = by_part table.no_operation (skip_all m room rest whole ks f)

-- an operator and an operand behind an operand
pub operate : (n m : ℕ) → n ≤ m → m < 10 → (k : TokenKind) → is_operator n k ≡ true → (room : ℕ) (rest : Stack) →
    ReadsBehind k (in_room room (part table.unary ∷ down_from 9) ++ rest) (in_room room (down_from m) ++ rest)
operate n m le less k is room rest whole ks f =
    skip (m - n) n m (omega (arith, le)) room rest whole (k ∷ ks) (at_level n (omega (arith, le, less)) k is room rest whole ks f)

-- `instanceof` and a type behind an operand
pub test_type : (m : ℕ) → 6 ≤ m → (room : ℕ) (rest : Stack) →
    ReadsBehind token.Instanceof (in_room room (part table.type_use ∷ down_from 6) ++ rest) (in_room room (down_from m) ++ rest)
test_type m le room rest whole ks f =
    skip (m - 6) 6 m (omega (arith, le)) room rest whole (token.Instanceof ∷ ks) (by_part table.of_instanceof (by_token f))

-- an operand, its operators and the branches of a conditional
pub conditional_reads : {room : ℕ} {choice : Stack} → Choices room choice → (rest : Stack) →
    Reads (in_room room (part table.unary ∷ down_from 9) ++ (choice ++ rest)) ((room, part table.conditional) ∷ rest)
conditional_reads {room = room} meaning.no_choice rest whole ks f =
    by_part table.of_operators (by_part (table.of_level (omega arith)) (climb 9 0 (omega arith) room rest whole ks f))
conditional_reads {room = room} meaning.one_choice rest whole ks f =
    by_part table.of_choice (by_part (table.of_level (omega arith)) (climb 9 0 (omega arith) room _ whole ks f))

-- ---- operands

-- the part that begins in a context
pub data Root : Context → Part → Type 0 where
  of_expression : Root context.Expression table.expression
  of_operand : Root context.Operand table.unary
  of_unsigned : Root context.Operand table.unsigned
  of_target : Root context.Target table.target
  of_effect : Root context.Effect table.statement_expression

-- an operand that may be unsigned, and what stands behind it
pub closes : {room : ℕ} {c : Context} {n : Part} {tail : Stack} {p : List Symbol} → Root c n → Behind room c tail → IsProduction table.unary p →
    IsProduction table.unsigned p →
    (rest : Stack) → Reads (in_room room p ++ (tail ++ rest)) ((room, part n) ∷ rest)
closes of_expression (meaning.behind_first (meaning.tail choice)) is also rest = λ whole ks f.
    by_part table.of_conditional (conditional_reads choice rest whole ks (by_part is f))
closes of_operand meaning.behind_other is also rest = λ whole ks f. by_part is f
closes of_unsigned meaning.behind_other is also rest = λ whole ks f. by_part also f
closes of_target b is also rest = elim b [ ]
closes of_effect b is also rest = elim b [ ]

-- What stands in front of further places and calls, and how it ends.
pub record Stem (room : ℕ) (e : Ending) (pre : Stack) : Type 0 where
  to_path : (rest : Stack) → Reads (pre ++ (in_room room (part table.members ∷ []) ++ rest)) ((room, part table.path) ∷ rest)
  to_target : (rest : Stack) → Reads (pre ++ (in_room room (part table.members ∷ part table.place ∷ []) ++ rest)) ((room, part table.target) ∷ rest)
  to_call : (rest : Stack) →
      Reads (pre ++ (in_room room (part table.members ∷ a token.Dot ∷ a token.Identifier ∷ deep table.arguments ∷ []) ++ rest))
      ((room, part table.statement_expression) ∷ rest)
  as_target : is_target e ≡ true → (rest : Stack) → Reads (pre ++ rest) ((room, part table.target) ∷ rest)
  as_call : e ≡ ending.Call → (rest : Stack) → Reads (pre ++ rest) ((room, part table.statement_expression) ∷ rest)

-- no further places or calls
no_members : (room : ℕ) (rest : Stack) → Reads rest ((room, part table.members) ∷ rest)
no_members room rest whole ks f = by_part table.no_member f

-- a place or a call, and further ones
one_place : (room : ℕ) (rest : Stack) → Reads (in_room room (part table.place ∷ part table.members ∷ []) ++ rest) ((room, part table.members) ∷ rest)
one_place room rest whole ks f = by_part table.of_place f

one_call : (room : ℕ) (rest : Stack) →
    Reads (in_room room (a token.Dot ∷ a token.Identifier ∷ deep table.arguments ∷ part table.members ∷ []) ++ rest) ((room, part table.members) ∷ rest)
one_call room rest whole ks f = by_part table.of_call f

-- what stands behind more
longer : (pre more rest s : Stack) {t : Stack} → Reads (pre ++ (more ++ rest)) (pre ++ s) → Reads (pre ++ s) t → Reads ((pre ++ more) ++ rest) t
longer pre more rest s first second = after (reads_equal (appended_assoc pre more rest)) (after first second)

-- a call, behind what it is called on
abbrev call_of : List Symbol
call_of = a token.Dot ∷ a token.Identifier ∷ deep table.arguments ∷ []

-- with a place behind it
stem_place : {room : ℕ} {e : Ending} {pre : Stack} → Stem room e pre → Stem room ending.Place (pre ++ in_room room (part table.place ∷ []))
stem_place {room = room} {pre = pre} s = record {
  to_path = λ rest. behind ((room, part table.members) ∷ rest) ((room, part table.members) ∷ rest) (under pre (one_place room rest)) (s.to_path rest);
  to_target = λ rest. let more = (room, part table.place) ∷ rest in
      behind ((room, part table.members) ∷ more) ((room, part table.members) ∷ more) (under pre (one_place room more)) (s.to_target rest);
  to_call = λ rest. let more = in_room room call_of ++ rest in
      behind ((room, part table.members) ∷ more) ((room, part table.members) ∷ more) (under pre (one_place room more)) (s.to_call rest);
  as_target = λ is rest. behind (in_room room (part table.members ∷ part table.place ∷ []) ++ rest) rest (under pre (no_members room
      ((room, part table.place) ∷ rest))) (s.to_target rest);
  as_call = λ is rest. absurd cc;
}
  where
    behind : {t : Stack} (u rest : Stack) → Reads (pre ++ ((room, part table.place) ∷ rest)) (pre ++ u) → Reads (pre ++ u) t →
        Reads ((pre ++ in_room room (part table.place ∷ [])) ++ rest) t
    behind u rest first second = longer pre (in_room room (part table.place ∷ [])) rest u first second

-- with a call behind it
stem_call : {room : ℕ} {e : Ending} {pre : Stack} → Stem room e pre → Stem room ending.Call (pre ++ in_room room call_of)
stem_call {room = room} {pre = pre} s = record {
  to_path = λ rest. behind ((room, part table.members) ∷ rest) ((room, part table.members) ∷ rest) (under pre (one_call room rest)) (s.to_path rest);
  to_target = λ rest. let more = (room, part table.place) ∷ rest in
      behind ((room, part table.members) ∷ more) ((room, part table.members) ∷ more) (under pre (one_call room more)) (s.to_target rest);
  to_call = λ rest. let more = in_room room call_of ++ rest in
      behind ((room, part table.members) ∷ more) ((room, part table.members) ∷ more) (under pre (one_call room more)) (s.to_call rest);
  as_target = λ is rest. absurd cc;
  as_call = λ is rest. behind ((room, part table.members) ∷ (in_room room call_of ++ rest)) rest (under pre (no_members room
      (in_room room call_of ++ rest))) (s.to_call rest);
}
  where
    behind : {t : Stack} (u rest : Stack) → Reads (pre ++ (in_room room call_of ++ rest)) (pre ++ u) → Reads (pre ++ u) t →
        Reads ((pre ++ in_room room call_of) ++ rest) t
    behind u rest first second = longer pre (in_room room call_of) rest u first second

-- what a primary is
pub stem_primary : (room : ℕ) (e : Ending) (p : List Symbol) → IsProduction table.primary p →
    (is_target e ≡ true → (rest : Stack) → Reads (in_room room p ++ rest) ((room, part table.target) ∷ rest)) →
    (e ≡ ending.Call → (rest : Stack) → Reads (in_room room p ++ rest) ((room, part table.statement_expression) ∷ rest)) → Stem room e (in_room room p)
stem_primary room e p is target call = record {
  to_path = λ rest whole ks f. by_part table.of_members (by_part is f);
  to_target = λ rest whole ks f. by_part table.of_place_target (by_part is f);
  to_call = λ rest whole ks f. by_part table.of_call_statement (by_part is f);
  as_target = target;
  as_call = call;
}

-- one that ends neither in a name nor in a call
pub stem_other : (room : ℕ) (p : List Symbol) → IsProduction table.primary p → Stem room ending.Other (in_room room p)
stem_other room p is = stem_primary room ending.Other p is (λ no. absurd cc) (λ no. absurd cc)

-- one that is a call
pub stem_called : (room : ℕ) (p : List Symbol) → IsProduction table.primary p → IsProduction table.statement_expression p →
    Stem room ending.Call (in_room room p)
stem_called room p is also = stem_primary room ending.Call p is (λ no. absurd cc) (λ yes rest whole ks f. by_part also f)

pub stem_name : (room : ℕ) → Stem room ending.Name (in_room room (a token.Identifier ∷ []))
stem_name room =
    stem_primary room ending.Name (a token.Identifier ∷ []) table.of_name (λ yes rest whole ks f. by_part table.of_name_target f) (λ no. absurd cc)

-- a new array with a size in its last brackets, and a field or a call
pub stem_field : (room : ℕ) → Stem room ending.Place (in_room room (a token.New ∷ any is_type_name ∷ part table.sizes ∷ a token.Dot ∷ a token.Identifier ∷ []))
stem_field room = record {
  to_path = λ rest whole ks f.
      by_part table.of_created (by_part table.of_open_creation (under (in_room room (a token.New ∷ any is_type_name ∷ part table.sizes ∷ []))
      (λ whole ks f. by_part table.of_selected (by_part table.of_selected_field f)) whole ks f));
  to_target = λ rest whole ks f.
      by_part table.of_created_place (by_part table.of_open_creation (under (in_room room (a token.New ∷ any is_type_name ∷ part table.sizes ∷ []))
      (λ whole ks f. by_part table.of_selected_field f) whole ks f));
  to_call = λ rest whole ks f.
      by_part table.of_selected_call_statement (by_part table.of_open_creation (under (in_room room (a token.New ∷ any is_type_name ∷ part table.sizes ∷ []))
      (λ whole ks f. by_part table.of_selected_field f) whole ks f));
  as_target = λ yes rest whole ks f. by_part table.of_created_field (by_part table.of_open_creation f);
  as_call = λ no. absurd cc;
}

pub stem_selected_call : (room : ℕ) →
    Stem room ending.Call (in_room room (a token.New ∷ any is_type_name ∷ part table.sizes ∷ a token.Dot ∷ a token.Identifier ∷ deep table.arguments ∷ []))
stem_selected_call room = record {
  to_path = λ rest whole ks f.
      by_part table.of_created (by_part table.of_open_creation (under (in_room room (a token.New ∷ any is_type_name ∷ part table.sizes ∷ []))
      (λ whole ks f. by_part table.of_selected (by_part table.of_selected_call f)) whole ks f));
  to_target = λ rest whole ks f.
      by_part table.of_created_place (by_part table.of_open_creation (under (in_room room (a token.New ∷ any is_type_name ∷ part table.sizes ∷ []))
      (λ whole ks f. by_part table.of_selected_call f) whole ks f));
  to_call = λ rest whole ks f.
      by_part table.of_selected_call_statement (by_part table.of_open_creation (under (in_room room (a token.New ∷ any is_type_name ∷ part table.sizes ∷ []))
      (λ whole ks f. by_part table.of_selected_call f) whole ks f));
  as_target = λ no. absurd cc;
  as_call = λ yes rest whole ks f. by_part table.of_created_call_statement (by_part table.of_open_creation f);
}

-- a whole path, and what stands behind it
value_reads : {room : ℕ} {c : Context} {n : Part} {tail : Stack} → Root c n → Behind room c tail → (rest : Stack) →
    Reads ((room, part table.path) ∷ tail ++ rest) ((room, part n) ∷ rest)
value_reads root behind rest whole ks f =
    closes root behind table.of_postfix table.of_unsigned_postfix rest whole ks (by_part table.of_path f)

after_reads : {room : ℕ} {c : Context} {e : Ending} {n : Part} {pre own : Stack} → Stem room e pre → After room c e own → Root c n → (rest : Stack) →
    Reads (pre ++ (own ++ rest)) ((room, part n) ∷ rest)
after_reads {room = room} {pre = pre} s (meaning.value {tail = tail} b) root rest =
    after (under pre (no_members room (tail ++ rest))) (after (s.to_path (tail ++ rest)) (value_reads root b rest))
after_reads {room = room} s (meaning.stepped {tail = tail} is b) root rest = λ whole ks f.
    closes root b table.of_postfix table.of_unsigned_postfix rest whole ks
    (by_part table.of_stepped (s.as_target is ((room, any is_step) ∷ tail ++ rest) whole ks f))
after_reads {room = room} s (meaning.stepped_effect is) of_effect rest = λ whole ks f.
    by_part table.of_stepped_statement (s.as_target is ((room, any is_step) ∷ rest) whole ks f)
after_reads {room = room} s (meaning.assigned is) of_expression rest = λ whole ks f.
    by_part table.of_assignment (s.as_target is (in_room room (any is_assignment ∷ deep table.expression ∷ []) ++ rest) whole ks f)
after_reads {room = room} s (meaning.assigned_effect is) of_effect rest = λ whole ks f.
    by_part table.of_assignment_statement (s.as_target is (in_room room (any is_assignment ∷ deep table.expression ∷ []) ++ rest) whole ks f)
after_reads s (meaning.as_target is) of_target rest = s.as_target is rest
after_reads s meaning.as_effect of_effect rest = s.as_call refl rest

-- a path with further places and calls, and what stands behind it
pub more_reads : {room : ℕ} {c : Context} {e : Ending} {n : Part} {pre own : Stack} → Stem room e pre → More room c e own → Root c n → (rest : Stack) →
    Reads (pre ++ (own ++ rest)) ((room, part n) ∷ rest)
more_reads s (meaning.no_more m) root rest = after_reads s m root rest
more_reads {room = room} {pre = pre} s (meaning.more_places {rest = own} m) root rest =
    after (reads_equal (sym (appended_assoc pre ((room, part table.place) ∷ []) (own ++ rest)))) (more_reads (stem_place s) m root rest)
more_reads {room = room} {pre = pre} s (meaning.more_calls {rest = own} m) root rest =
    after (reads_equal (sym (appended_assoc pre (in_room room (a token.Dot ∷ a token.Identifier ∷ deep table.arguments ∷ [])) (own ++ rest))))
    (more_reads (stem_call s) m root rest)

-- a name
pub name_reads : {room : ℕ} {c : Context} {n : Part} {own : Stack} → Paths room c ending.Name own → Root c n → (rest : Stack) →
    Reads ((room, a token.Identifier) ∷ own ++ rest) ((room, part n) ∷ rest)
name_reads {room = room} (meaning.as_it_ends m) root rest = more_reads (stem_name room) m root rest
name_reads {room = room} (meaning.name_called m) root rest =
    more_reads (stem_called room (a token.Identifier ∷ deep table.arguments ∷ []) table.of_simple_call table.of_simple_call_statement) m root rest

-- a new array
unindexed_reads : {room : ℕ} {c : Context} {n : Part} {own : Stack} → Unindexed room c own → Root c n → (rest : Stack) →
    Reads (in_room room (a token.New ∷ any is_type_name ∷ part table.sizes ∷ []) ++ (own ++ rest)) ((room, part n) ∷ rest)
unindexed_reads {room = room} (meaning.none_selected m) root rest = alone m root rest
  where
    alone : {c : Context} {n : Part} {own : Stack} → After room c ending.Other own → Root c n → (rest : Stack) →
        Reads (in_room room (a token.New ∷ any is_type_name ∷ part table.sizes ∷ []) ++ (own ++ rest)) ((room, part n) ∷ rest)
    alone (meaning.value {tail = tail} b) root rest = λ whole ks f. value_reads root b rest whole ks
        (by_part table.of_created (by_part table.of_open_creation
        (under (in_room room (a token.New ∷ any is_type_name ∷ part table.sizes ∷ [])) (λ whole ks f. by_part table.no_unindexed f) whole ks f)))
    alone (meaning.stepped is b) root rest = absurd cc
    alone (meaning.stepped_effect is) root rest = absurd cc
    alone (meaning.assigned is) root rest = absurd cc
    alone (meaning.assigned_effect is) root rest = absurd cc
    alone (meaning.as_target is) root rest = absurd cc
unindexed_reads {room = room} (meaning.field_selected m) root rest = more_reads (stem_field room) m root rest
unindexed_reads {room = room} (meaning.call_selected m) root rest = more_reads (stem_selected_call room) m root rest

sized_reads : {room : ℕ} {c : Context} {n : Part} {own : Stack} → Sized room c own → Root c n → (rest : Stack) →
    Reads (in_room room (a token.New ∷ any is_type_name ∷ part table.sizes ∷ []) ++ (own ++ rest)) ((room, part n) ∷ rest)
sized_reads (meaning.sized m) root rest = unindexed_reads m root rest
sized_reads {room = room} (meaning.closed m) root rest =
    more_reads (stem_other room
    (a token.New ∷ any is_type_name ∷ part table.sizes ∷ a token.LeftBracket ∷ a token.RightBracket ∷ part table.brackets ∷ []) table.of_new_array) m root rest

pub created_reads : {room : ℕ} {c : Context} {n : Part} {own : Stack} → Created room c own → Root c n → (rest : Stack) →
    Reads (in_room room (a token.New ∷ any is_type_name ∷ []) ++ (own ++ rest)) ((room, part n) ∷ rest)
created_reads (meaning.with_sizes m) root rest = sized_reads m root rest
created_reads {room = room} (meaning.with_values m) root rest =
    more_reads (stem_other room
    (a token.New ∷ any is_type_name ∷ a token.LeftBracket ∷ a token.RightBracket ∷ part table.brackets ∷ deep table.braces
    ∷ []) table.of_filled_array) m root rest

-- ---- what may end

-- the kind of what stands behind a whole path
pub ended : (room : ℕ) (c : Context) (e : Ending) → may_end c e ≡ true → (own : Stack) × After room c e own × ((rest : Stack) → Reads rest (own ++ rest))
ended room context.Expression e is = (in_room room (down_from 9), meaning.value (meaning.behind_first (meaning.tail meaning.no_choice)), skip_all 9 room)
ended room context.Operand e is = ([], meaning.value meaning.behind_other, λ rest whole ks f. f)
ended room context.Target e is = ([], meaning.as_target is, λ rest whole ks f. f)
ended room context.Effect ending.Call is = ([], meaning.as_effect, λ rest whole ks f. f)
ended room context.Effect ending.Name is = absurd cc
ended room context.Effect ending.Place is = absurd cc
ended room context.Effect ending.Other is = absurd cc

-- a field may stand where a name may
pub name_as_place : {room : ℕ} {c : Context} {own : Stack} → More room c ending.Name own → More room c ending.Place own
name_as_place (meaning.no_more (meaning.value b)) = meaning.no_more (meaning.value b)
name_as_place (meaning.no_more (meaning.stepped is b)) = meaning.no_more (meaning.stepped refl b)
name_as_place (meaning.no_more (meaning.stepped_effect is)) = meaning.no_more (meaning.stepped_effect refl)
name_as_place (meaning.no_more (meaning.assigned is)) = meaning.no_more (meaning.assigned refl)
name_as_place (meaning.no_more (meaning.assigned_effect is)) = meaning.no_more (meaning.assigned_effect refl)
name_as_place (meaning.no_more (meaning.as_target is)) = meaning.no_more (meaning.as_target refl)
name_as_place (meaning.more_places m) = meaning.more_places m
name_as_place (meaning.more_calls m) = meaning.more_calls m
