-- Steps backwards at the beginning of an operand.
use Rattle.std.proofs.Common.{◌≡◌, ℕ, zero, suc, ◌+◌, ◌≤◌, Bool, true, false, ◌&&◌, if◌then◌else◌, List, [], ◌∷◌, ◌++◌, refl, sym, ◌∙◌, subst, arith}
use Rattle.jsh_tree.specs.declared.token.TokenKind.{TokenKind}
use Rattle.jsh_tree.specs.declared.token.TokenKind.TheVariants as token
use Rattle.jsh_grammar.specs.Classes.{is_literal, is_prefix, is_step}
use Rattle.jsh_grammar.specs.Productions.{Part, a, any, part, deep}
use Rattle.jsh_grammar.specs.Productions as table
use Rattle.jsh_recognizer.specs.declared.frame.Context.{Context}
use Rattle.jsh_recognizer.specs.declared.frame.Context.TheVariants as context
use Rattle.jsh_recognizer.specs.declared.frame.Ending.TheVariants as ending
use Rattle.jsh_recognizer.specs.declared.frame.Frame.{Frame}
use Rattle.jsh_recognizer.specs.declared.frame.Frame.TheVariants as frame
use Rattle.jsh_recognizer.specs.Machine.{takes, refuses, begins, may_cast, is_sign, rest_of}
use Rattle.jsh_recognizer.specs.Meanings as meaning
use Rattle.jsh_recognizer.specs.Meanings.{Stack, by_token, by_class, by_part, by_deep, IsPartOf, Own, Behind, Opens}
use Rattle.jsh_recognizer.proofs.MeantStep.{ReadsBehind, Sound, Owned, Only, is_plain, StandsFor}
use Rattle.jsh_recognizer.proofs.MeantForms.{here, symbol, inner_symbol, deeper, ready, ready_symbol, ready_inner_symbol, ready_deep, none_ready, next_ready, own_here, a_symbol, an_inner_symbol, a_deep, Shapes, last_shape, shaped, Made, sound_forms}
use Rattle.jsh_recognizer.proofs.MeantOwn as own
use Rattle.jsh_recognizer.proofs.MeantOperands.{Root, of_expression, of_operand, of_unsigned, of_target, of_effect, closes, conditional_reads, more_reads, name_reads, created_reads, stem_other, stem_called}
use Rattle.jsh_recognizer.proofs.MeantViews.{yes, no, tested, both, begins_whole, BeginsView, name_first, this_first, parenthesis_first, super_first, new_first, other_first, begins_view, negation_of, step_signs}
use Rattle.jsh_recognizer.proofs.MeantPath.{same_new, same_depth, some_more, never_called}

-- an operand that is unsigned, where the part has to be so
abbrev pub Allowed : Part → TokenKind → Type 0
Allowed n k = n ≡ table.unsigned → is_sign k ≡ false

-- an operand that begins with the token
closes_behind : {room : ℕ} {c : Context} {n : Part} {k : TokenKind} {s tail rest : Stack} → Root c n → Behind room c tail → Allowed n k →
    ReadsBehind k s ((room, part table.unary) ∷ tail ++ rest) → (is_sign k ≡ false → ReadsBehind k s ((room, part table.unsigned) ∷ tail ++ rest)) →
    ReadsBehind k s ((room, part n) ∷ rest)
closes_behind {k = k} {rest = rest} of_expression (meaning.behind_first (meaning.tail choice)) allowed first second =
    λ whole ks f. by_part table.of_conditional (conditional_reads choice rest whole (k ∷ ks) (first whole ks f))
closes_behind of_operand meaning.behind_other allowed first second = first
closes_behind of_unsigned meaning.behind_other allowed first second = second (allowed refl)
closes_behind of_target b allowed first second = elim b [ ]
closes_behind of_effect b allowed first second = elim b [ ]

-- the kind of a part alone, made
abbrev MadeOnly : ℕ → Part → Bool → TokenKind → Stack → Type 0
MadeOnly room n closed k s = Made (Only room (part n)) closed k s

-- ---- what the frames behind the token are read as

name_back : (room : ℕ) {c : Context} {n : Part} → Root c n → (closed : Bool) (s : Stack) → Shapes room (here (frame.Path c ending.Name) ∷ []) s →
    MadeOnly room n closed token.Identifier s
name_back room root closed s (last_shape (own_here o)) = (_, refl, λ rest whole ks f. name_reads (own.path_own o) root rest whole _ (by_token f))

this_back : (room : ℕ) {c : Context} {n : Part} → Root c n → (closed : Bool) (s : Stack) → Shapes room (here (frame.Path c ending.Other) ∷ []) s →
    MadeOnly room n closed token.This s
this_back room root closed s (last_shape (own_here o)) = (
  _,
  refl,
  λ rest whole ks f. more_reads (stem_other room (a token.This ∷ []) table.of_this) (never_called (own.path_own o) refl) root rest whole _ (by_token f),
)

literal_back : (room : ℕ) {c : Context} {n : Part} → Root c n → (k : TokenKind) → is_literal k ≡ true → (closed : Bool) (s : Stack) →
    Shapes room (here (frame.Path c ending.Other) ∷ []) s → MadeOnly room n closed k s
literal_back room root k is closed s (last_shape (own_here o)) = (
  _,
  refl,
  λ rest whole ks f.
      more_reads (stem_other room (any is_literal ∷ []) table.of_literal) (never_called (own.path_own o) refl) root rest whole _ (by_class is f),
)

pub opens_reads : {room : ℕ} {c : Context} {n : Part} {s : Stack} → Opens room c s → Root c n → (rest : Stack) →
    ReadsBehind token.LeftParen (s ++ rest) ((room, part n) ∷ rest)
opens_reads (meaning.in_parentheses {room = room} m) root rest = λ whole ks f.
    more_reads (stem_other (suc room) (deep table.parenthesized ∷ []) table.of_parenthesized) m root rest whole _ (by_deep table.in_parentheses (by_token f))
opens_reads (meaning.primitive_cast b) root rest = λ whole ks f.
    closes root b table.of_primitive_cast table.of_unsigned_primitive_cast rest whole _ (by_deep table.of_primitive (by_token f))
opens_reads (meaning.named_cast b) root rest = λ whole ks f.
    closes root b table.of_named_cast table.of_unsigned_named_cast rest whole _ (by_deep table.of_named (by_token f))

opened_back : (room : ℕ) {c : Context} {n : Part} → Root c n → (closed : Bool) (s : Stack) → Shapes room (here (frame.Opened c) ∷ []) s →
    MadeOnly room n closed token.LeftParen s
opened_back room root closed s (last_shape (own_here o)) = (_, refl, opens_reads (own.opened_own o).1 root)

parenthesized_back : (room : ℕ) {c : Context} {n : Part} → Root c n → (closed : Bool) (s : Stack) →
    Shapes (suc room) (inner_symbol room frame.Expression (part table.expression) ∷ inner_symbol room (frame.Expect token.RightParen) (a token.RightParen)
    ∷ here (frame.Path c ending.Other) ∷ []) s → MadeOnly (suc room) n closed token.LeftParen s
parenthesized_back room root closed _ (shaped an_inner_symbol (shaped an_inner_symbol (last_shape (own_here o)))) =
    (_, refl, opens_reads (meaning.in_parentheses (never_called (own.path_own o) refl)) root)

super_back : (room : ℕ) {c : Context} {n : Part} → Root c n → (closed : Bool) (s : Stack) →
    Shapes room (symbol (frame.Expect token.Dot) (a token.Dot) ∷ symbol (frame.Expect token.Identifier) (a token.Identifier)
    ∷ symbol frame.OpenArguments (deep table.arguments) ∷ here (frame.Path c ending.Call) ∷ []) s → MadeOnly room n closed token.Super s
super_back room root closed _ (shaped a_symbol (shaped a_symbol (shaped a_symbol (last_shape (own_here o))))) = (
  _,
  refl,
  λ rest whole ks f.
      more_reads (stem_called room (a token.Super ∷ a token.Dot ∷ a token.Identifier ∷ deep table.arguments
      ∷ []) table.of_super_call table.of_super_call_statement)
      (never_called (own.path_own o) refl) root rest whole _ (by_token f),
)

new_reads : {room : ℕ} {c : Context} {n : Part} {s : Stack} → Own room (frame.New c) s → Root c n → (rest : Stack) →
    ReadsBehind token.New (s ++ rest) ((room, part n) ∷ rest)
new_reads {room = room} (meaning.new_object m) root rest = λ whole ks f.
    more_reads (stem_called room (a token.New ∷ a token.Identifier ∷ deep table.arguments ∷ []) table.of_new_object table.of_new_statement) m root rest whole _
    (by_token f)
new_reads (meaning.new_array m) root rest = λ whole ks f. created_reads m root rest whole _ (by_token f)
new_reads (meaning.a_part is) root rest = elim is [ ]
new_reads (meaning.within is) root rest = elim is [ ]
new_reads (meaning.named_type is) root rest = elim is [ ]
new_reads (meaning.named_effect is p) root rest = elim is [ ]
new_reads (meaning.pair_of_type is) root rest = elim is [ ]
new_reads (meaning.pair_of_index is m i) root rest = elim is [ ]

new_back : (room : ℕ) {c : Context} {n : Part} → Root c n → (closed : Bool) (s : Stack) → Shapes room (here (frame.New c) ∷ []) s →
    MadeOnly room n closed token.New s
new_back room root closed s (last_shape (own_here o)) = (_, refl, new_reads o root)

-- ---- operands behind a sign or a step

-- the part of a frame is, behind the token, an operand
abbrev IsOperand : ℕ → TokenKind → Part → Part → Type 0
IsOperand room k m n = (rest : Stack) → ReadsBehind k ((room, deep m) ∷ rest) ((room, part n) ∷ rest)

first_signed_back : (room : ℕ) {n : Part} → Root context.Expression n → (k : TokenKind) → Allowed n k → (f : Frame) (m : Part) →
    IsOperand room k m table.unary →
    (is_sign k ≡ false → IsOperand room k m table.unsigned) → (closed : Bool) (s : Stack) →
    Shapes room (deeper f m ∷ here (frame.Operators false) ∷ []) s → MadeOnly room n closed k s
first_signed_back room root k allowed f m is also closed _ (shaped a_deep (last_shape (own_here {own = s} o))) = (
  _,
  refl,
  λ rest. closes_behind root (meaning.behind_first (own.operators_own o)) allowed (is (s ++ rest)) (λ isnt. also isnt (s ++ rest)),
)

other_signed_back : (room : ℕ) {n : Part} → Root context.Operand n → (k : TokenKind) → Allowed n k → (f : Frame) (m : Part) → IsOperand room k m table.unary →
    (is_sign k ≡ false → IsOperand room k m table.unsigned) → (closed : Bool) (s : Stack) → Shapes room (deeper f m ∷ []) s → MadeOnly room n closed k s
other_signed_back room root k allowed f m is also closed _ (last_shape a_deep) =
    (_, refl, λ rest. closes_behind root meaning.behind_other allowed (is rest) (λ isnt. also isnt rest))

signed_sound : {limit depth room : ℕ} → depth + room ≡ limit → (c : Context) {n : Part} → Root c n → may_cast c ≡ true → (k : TokenKind) → Allowed n k →
    (f : Frame) (m : Part) → is_plain f ≡ true → StandsFor f m → IsPartOf f m → IsOperand room k m table.unary →
    (is_sign k ≡ false → IsOperand room k m table.unsigned) → Sound limit depth (Only room (part n)) k ((1, f) ∷ rest_of c)
signed_sound {room = room} fits context.Expression root may k allowed f m plain only part_of is also = sound_forms (deeper f m
    ∷ here (frame.Operators false) ∷ []) fits
    (next_ready (ready_deep plain only part_of) (next_ready (ready refl (meaning.operators (meaning.tail meaning.no_choice))) none_ready))
    (first_signed_back room root k allowed f m is also)
signed_sound {room = room} fits context.Operand root may k allowed f m plain only part_of is also = sound_forms (deeper f m ∷ []) fits
    (next_ready (ready_deep plain only part_of) none_ready) (other_signed_back room root k allowed f m is also)
signed_sound fits context.Target root may k allowed f m plain only part_of is also = absurd cc
signed_sound fits context.Effect root may k allowed f m plain only part_of is also = absurd cc

-- ---- how operands begin

literal_sound : {limit depth room : ℕ} → depth + room ≡ limit → (c : Context) {n : Part} → Root c n → (k : TokenKind) → is_literal k ≡ true →
    Sound limit depth (Only room (part n)) k ((0, frame.Path c ending.Other) ∷ [])
literal_sound {room = room} fits c root k is = sound_forms (here (frame.Path c ending.Other) ∷ []) fits
    (next_ready (ready refl (meaning.path (meaning.as_it_ends (some_more room c ending.Other).1))) none_ready) (literal_back room root k is)

-- a part behind a step
step_operand : (room : ℕ) (k : TokenKind) → is_step k ≡ true → IsOperand room k table.target table.unary
step_operand room k is rest whole ks f = by_part table.of_step (by_class is f)

prefix_operand : (room : ℕ) (k : TokenKind) → is_prefix k ≡ true → IsOperand room k table.unary table.unary
prefix_operand room k is rest whole ks f = by_part table.of_prefix (by_class is f)

negation_operand : (room : ℕ) (k : TokenKind) → is_prefix k ≡ true → is_sign k ≡ false → IsOperand room k table.unary table.unsigned
negation_operand room k is isnt rest whole ks f = by_part table.of_negation (by_class (negation_of k is isnt) f)

signs_no_step : (k : TokenKind) → is_step k ≡ true → is_sign k ≡ false → {A : Type 0} → A
signs_no_step k is isnt = let s = step_signs k is in absurd cc

-- in a context where a cast may stand
cast_begins : {limit depth room : ℕ} → depth + room ≡ limit → (c : Context) {n : Part} → Root c n → may_cast c ≡ true → (k : TokenKind) → Allowed n k →
    (m : ℕ) (new : List (ℕ × Frame)) → (if is_literal k then takes 0 ((0, frame.Path c ending.Other) ∷ [])
    else (if is_step k then takes 0 ((1, frame.Target) ∷ rest_of c)
    else (if is_prefix k && may_cast c then takes 0 ((1, frame.Operand) ∷ rest_of c) else refuses))) ≡ takes m new →
    Sound limit depth (Only room (part n)) k new
cast_begins {room = room} fits c root may k allowed m new t = elim (tested (is_literal k) _ _ _ t) [
  | yes is takes_it ↦ same_new takes_it (literal_sound fits c root k is)
  | no isnt t ↦ elim (tested (is_step k) _ _ _ t) [
    | yes is takes_it ↦ same_new takes_it (signed_sound fits c root may k allowed frame.Target table.target refl own.target_only meaning.a_target
        (step_operand room k is) (λ sign. signs_no_step k is sign))
    | no isnt t ↦ elim (tested (is_prefix k && may_cast c) _ _ _ t) [
      | yes is takes_it ↦ (let b = both (is_prefix k) (may_cast c) is in
          same_new takes_it (signed_sound fits c root may k allowed frame.Operand table.unary refl own.operand_only meaning.an_operand
          (prefix_operand room k b.0) (negation_operand room k b.0)))
      | no isnt t ↦ absurd cc
    ]
  ]
]

effect_step_back : (room : ℕ) {n : Part} → Root context.Effect n → (k : TokenKind) → is_step k ≡ true → (closed : Bool) (s : Stack) →
    Shapes room (deeper frame.Target table.target ∷ []) s → MadeOnly room n closed k s
effect_step_back room of_effect k is closed _ (last_shape a_deep) = (_, refl, λ rest whole ks f. by_part table.of_step_statement (by_class is f))

whole_begins : {limit depth room : ℕ} → depth + room ≡ limit → (c : Context) {n : Part} → Root c n → (k : TokenKind) → Allowed n k → (m : ℕ)
    (new : List (ℕ × Frame)) → begins_whole c k ≡ takes m new → Sound limit depth (Only room (part n)) k new
whole_begins fits context.Expression root k allowed m new t = cast_begins fits context.Expression root refl k allowed m new t
whole_begins fits context.Operand root k allowed m new t = cast_begins fits context.Operand root refl k allowed m new t
whole_begins fits context.Target root k allowed m new t = elim (tested (is_literal k) _ _ _ t) [
  | yes is takes_it ↦ same_new takes_it (literal_sound fits context.Target root k is)
  | no isnt t ↦ absurd cc
]
whole_begins {room = room} fits context.Effect root k allowed m new t = elim (tested (is_literal k) _ _ _ t) [
  | yes is takes_it ↦ same_new takes_it (literal_sound fits context.Effect root k is)
  | no isnt t ↦ elim (tested (is_step k) _ _ _ t) [
    | yes is takes_it ↦ same_new takes_it (sound_forms (deeper frame.Target table.target ∷ []) fits
        (next_ready (ready_deep refl own.target_only meaning.a_target) none_ready) (effect_step_back room root k is))
    | no isnt t ↦ elim (tested (is_prefix k && false) _ _ _ t) [
      | yes is takes_it ↦ (let b = both (is_prefix k) false is in absurd cc)
      | no isnt t ↦ absurd cc
    ]
  ]
]

pub begins_sound : {limit depth : ℕ} (room : ℕ) → depth + room ≡ limit → (c : Context) {n : Part} → Root c n → (k : TokenKind) → Allowed n k → (m : ℕ)
    (new : List (ℕ × Frame)) → begins c k ≡ takes m new → depth + m ≤ limit → Sound limit depth (Only room (part n)) k new
begins_sound {limit = limit} {depth = depth} room fits c {n = n} root k allowed m new t le = at room fits k (begins_view c k) allowed t
  where
    parens : (room : ℕ) → depth + room ≡ limit → begins c token.LeftParen ≡ takes m new → Sound limit depth (Only room (part n)) token.LeftParen new
    parens room fits t = elim (tested (may_cast c) _ _ _ t) [
      | yes may takes_it ↦ same_new takes_it (some room fits may takes_it)
      | no may takes_it ↦ same_new takes_it (other room fits takes_it)
    ]
      where
        some : (room : ℕ) → depth + room ≡ limit → may_cast c ≡ true → takes 1 ((0, frame.Opened c) ∷ []) ≡ takes m new →
            Sound limit depth (Only room (part n)) token.LeftParen ((0, frame.Opened c) ∷ [])
        some zero fits may e = absurd (omega (arith, fits, le, same_depth e))
        some (suc room) fits may e = sound_forms (here (frame.Opened c) ∷ []) fits
            (next_ready (ready refl (meaning.opened may (meaning.in_parentheses (some_more (suc room) c ending.Other).1))) none_ready)
            (opened_back (suc room) root)

        other : (room : ℕ) → depth + room ≡ limit →
            takes 1 ((1, frame.Expression) ∷ (1, frame.Expect token.RightParen) ∷ (0, frame.Path c ending.Other) ∷ []) ≡ takes m new →
            Sound limit depth (Only room (part n)) token.LeftParen ((1, frame.Expression) ∷ (1, frame.Expect token.RightParen)
            ∷ (0, frame.Path c ending.Other) ∷ [])
        other zero fits e = absurd (omega (arith, fits, le, same_depth e))
        other (suc room) fits e = sound_forms
            (inner_symbol room frame.Expression (part table.expression) ∷ inner_symbol room (frame.Expect token.RightParen) (a token.RightParen)
            ∷ here (frame.Path c ending.Other) ∷ []) fits
            (next_ready (ready_inner_symbol refl own.expression_only (meaning.a_part meaning.an_expression))
            (next_ready (ready_inner_symbol refl (own.expect_only token.RightParen) meaning.expected)
            (next_ready (ready refl (meaning.path (meaning.as_it_ends (some_more (suc room) c ending.Other).1))) none_ready)))
            (parenthesized_back room root)

    at : (room : ℕ) → depth + room ≡ limit → (k : TokenKind) → BeginsView c k → Allowed n k → begins c k ≡ takes m new →
        Sound limit depth (Only room (part n)) k new
    at room fits _ name_first allowed t = same_new t (sound_forms (here (frame.Path c ending.Name) ∷ []) fits
        (next_ready (ready refl (meaning.path (meaning.as_it_ends (some_more room c ending.Name).1))) none_ready) (name_back room root))
    at room fits _ this_first allowed t = same_new t (sound_forms (here (frame.Path c ending.Other) ∷ []) fits
        (next_ready (ready refl (meaning.path (meaning.as_it_ends (some_more room c ending.Other).1))) none_ready) (this_back room root))
    at room fits _ parenthesis_first allowed t = parens room fits t
    at room fits _ super_first allowed t = same_new t (sound_forms
        (symbol (frame.Expect token.Dot) (a token.Dot) ∷ symbol (frame.Expect token.Identifier) (a token.Identifier)
        ∷ symbol frame.OpenArguments (deep table.arguments) ∷ here (frame.Path c ending.Call) ∷ []) fits
        (next_ready (ready_symbol refl (own.expect_only token.Dot) meaning.expected)
        (next_ready (ready_symbol refl (own.expect_only token.Identifier) meaning.expected)
        (next_ready (ready_symbol refl own.open_arguments_only (meaning.within meaning.a_call))
        (next_ready (ready refl (meaning.path (meaning.as_it_ends (some_more room c ending.Call).1))) none_ready))))
        (super_back room root))
    at room fits _ new_first allowed t = same_new t (sound_forms (here (frame.New c) ∷ []) fits
        (next_ready (ready refl (meaning.new_object (some_more room c ending.Call).1)) none_ready) (new_back room root))
    at room fits k (other_first is) allowed t = whole_begins fits c root k allowed m new (sym is ∙ t)

-- ---- the frames that are parts

-- as the stack of a frame that the part stands for
pub as_frame : {room : ℕ} {f : Frame} {n : Part} → IsPartOf f n → (closed : Bool) (s : Stack) → Only room (part n) closed s → Owned room f closed s
as_frame {room = room} {f = f} is closed s e = subst (Own room f) (sym e) (meaning.a_part is)

pub expression_sound : {limit depth : ℕ} (room : ℕ) → depth + room ≡ limit → (k : TokenKind) (m : ℕ) (new : List (ℕ × Frame)) →
    begins context.Expression k ≡ takes m new → depth + m ≤ limit → Sound limit depth (Only room (part table.expression)) k new
expression_sound room fits k m new t le = begins_sound room fits context.Expression of_expression k (λ e. absurd cc) m new t le

pub operand_sound : {limit depth : ℕ} (room : ℕ) → depth + room ≡ limit → (k : TokenKind) (m : ℕ) (new : List (ℕ × Frame)) →
    begins context.Operand k ≡ takes m new → depth + m ≤ limit → Sound limit depth (Only room (part table.unary)) k new
operand_sound room fits k m new t le = begins_sound room fits context.Operand of_operand k (λ e. absurd cc) m new t le

pub unsigned_sound : {limit depth : ℕ} (room : ℕ) → depth + room ≡ limit → (k : TokenKind) → is_sign k ≡ false → (m : ℕ) (new : List (ℕ × Frame)) →
    begins context.Operand k ≡ takes m new → depth + m ≤ limit → Sound limit depth (Only room (part table.unsigned)) k new
unsigned_sound room fits k isnt m new t le = begins_sound room fits context.Operand of_unsigned k (λ e. isnt) m new t le

pub target_sound : {limit depth : ℕ} (room : ℕ) → depth + room ≡ limit → (k : TokenKind) (m : ℕ) (new : List (ℕ × Frame)) →
    begins context.Target k ≡ takes m new → depth + m ≤ limit → Sound limit depth (Only room (part table.target)) k new
target_sound room fits k m new t le = begins_sound room fits context.Target of_target k (λ e. absurd cc) m new t le

pub effect_sound : {limit depth : ℕ} (room : ℕ) → depth + room ≡ limit → (k : TokenKind) (m : ℕ) (new : List (ℕ × Frame)) →
    begins context.Effect k ≡ takes m new → depth + m ≤ limit → Sound limit depth (Only room (part table.statement_expression)) k new
effect_sound room fits k m new t le = begins_sound room fits context.Effect of_effect k (λ e. absurd cc) m new t le
