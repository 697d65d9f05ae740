-- What the recognizer does behind a parenthesis, where an expression or the type of a cast may stand.
use Rattle.std.proofs.Common.{◌≡◌, ℕ, suc, ◌+◌, Bool, true, false, List, [], ◌∷◌, ◌++◌, ◌⊎◌, inl, inr, if◌then◌else◌, refl, sym, ap, subst, append_assoc, arith}
use Rattle.jsh_tree.specs.declared.token.TokenKind.{TokenKind}
use Rattle.jsh_tree.specs.declared.token.TokenKind.TheVariants as token
use Rattle.jsh_grammar.specs.Classes.{is_literal, is_primitive, is_negation}
use Rattle.jsh_grammar.specs.Productions.{a, part, deep}
use Rattle.jsh_grammar.specs.Productions as table
use Rattle.jsh_recognizer.specs.declared.frame.Context.{Context}
use Rattle.jsh_recognizer.specs.declared.frame.Context.TheVariants as context
use Rattle.jsh_recognizer.specs.declared.frame.Ending.TheVariants as ending
use Rattle.jsh_recognizer.specs.declared.frame.Frame.TheVariants as frame
use Rattle.jsh_recognizer.specs.Meanings.{Stack, Follows, by_token, by_class, by_part, by_deep}
use Rattle.jsh_recognizer.specs.Meanings as means
use Rattle.jsh_recognizer.specs.Machine.{Move, takes, inside, indexed, parenthesized, Frames, begins, behind_path, rest_of, is_sign, may_cast, begins_unsigned}
use Rattle.jsh_recognizer.specs.Machine as machine
use Rattle.jsh_recognizer.specs.Meanings.{After, More, Behind, Opens, OpensNamed, OpensPair, Casts, Indexed, Means, a_frame, a_deep_frame}
use Rattle.jsh_recognizer.proofs.TakesOrder.{ClosesPath, Orderly}
use Rattle.jsh_recognizer.proofs.TakesOrder as order
use Rattle.jsh_recognizer.proofs.TakesStep.{Takes, FStep, taking, past}
use Rattle.jsh_recognizer.proofs.TakesPlaced.{takes_it, takes_within}
use Rattle.jsh_recognizer.proofs.TakesClasses.{is_behind_operand}
use Rattle.jsh_recognizer.proofs.TakesPath.{begun_takes, expression_takes, expression_named, more_step, path_step}
use Rattle.jsh_recognizer.proofs.TakesEnds.{path_index}
use Rattle.jsh_recognizer.proofs.TakesOperand.{unsigned_begun}
use Rattle.jsh_recognizer.proofs.TakesTail.{behind_token, first_tail_token}

-- ---- the parenthesis

opened_primitive : (c : Context) (k : TokenKind) → is_primitive k ≡ true → machine.opened c k ≡ takes 1 ((0, frame.CastType true c) ∷ [])
opened_primitive c token.Int is = refl
opened_primitive c _ is = cc

-- but for a name it is what an expression does
opened_begun : {limit depth : ℕ} {whole : Bool} {fs : Frames} {ks : List TokenKind} (c : Context) (k : TokenKind) →
    (k ≡ token.Identifier → Takes limit whole depth fs ks (machine.opened c token.Identifier)) →
    Takes limit whole depth fs ks (parenthesized c (begins context.Expression k)) → Takes limit whole depth fs ks (machine.opened c k)
opened_begun c token.Identifier named t = named refl
opened_begun c token.Int named t = elim t [ ]
opened_begun c token.Long named t = elim t [ ]
opened_begun c token.Char named t = elim t [ ]
opened_begun c token.Boolean named t = elim t [ ]
opened_begun c _ named t = t

-- a name behind the parenthesis, where an expression begins with it
opened_named : {limit depth room : ℕ} {whole closed : Bool} {c : Context} {fs : Frames} {rest stack : Stack} {k : TokenKind} {ks : List TokenKind} →
    depth + suc room ≡ limit → ClosesPath c fs → Orderly fs → Means limit closed fs stack → may_cast c ≡ true → More (suc room) c ending.Other rest →
    Follows whole ((room, part table.expression) ∷ (room, a token.RightParen) ∷ (rest ++ stack)) (k ∷ ks) → k ≡ token.Identifier →
    Takes limit whole depth fs ks (machine.opened c token.Identifier)
opened_named {room = room} {whole = whole} {rest = rest} {stack = stack} {k = k} {ks = ks} e closes orderly m may more f same =
    let h = expression_named (subst (λ j. Follows whole ((room, part table.expression) ∷ (room, a token.RightParen) ∷ (rest ++ stack)) (j ∷ ks)) same f) in
    takes_it (omega (arith, e)) (closes, orderly) (a_frame e (means.opened_name may (means.named_in_parentheses h.1 more)) m)
    (subst (λ z. Follows whole z ks) (sym (append_assoc h.0 ((room, a token.RightParen) ∷ rest) stack)) h.2)

pub opened_step : {limit depth room : ℕ} {whole closed : Bool} {c : Context} {fs : Frames} {own stack : Stack} {k : TokenKind} {ks : List TokenKind} →
    depth + room ≡ limit → ClosesPath c fs → Orderly fs → Means limit closed fs stack → may_cast c ≡ true → Opens room c own →
    Follows whole (own ++ stack) (k ∷ ks) →
    Takes limit whole depth fs ks (machine.opened c k)
opened_step {depth = depth} {c = c} {k = k} e closes orderly m may (means.in_parentheses more) f =
    opened_begun c k (opened_named e closes orderly m may more f)
    (takes_within 1 ((1, frame.Expect token.RightParen) ∷ (0, frame.Path c ending.Other) ∷ [])
    (expression_takes (omega (arith, e)) order.closes_parenthesis (tt, (closes, orderly))
    (a_frame (omega (arith, e)) means.expected (a_frame e (means.path (means.as_it_ends more)) m)) f))
opened_step {limit} {depth} {whole = whole} {c = c} {fs = fs} {ks = ks} e closes orderly m may (means.primitive_cast behind) (by_class {k = k} is f) =
    subst (Takes limit whole depth fs ks) (sym (opened_primitive c k is))
    (takes_it (omega (arith, e)) (closes, orderly) (a_frame e (means.cast_type (means.primitive_type behind)) m) f)
opened_step e closes orderly m may (means.named_cast behind) (by_token f) =
    takes_it (omega (arith, e)) (closes, orderly) (a_frame e (means.opened_name may (means.named_of_cast behind)) m) f

-- ---- behind a name

-- the token, or the closing parenthesis
closing : {limit depth room : ℕ} {whole : Bool} {fs : Frames} {x : Stack} {k : TokenKind} {ks : List TokenKind} {move : Move} →
    FStep limit whole depth fs ((room, a token.RightParen) ∷ x) k ks move → Takes limit whole depth fs ks move ⊎ (k ≡ token.RightParen) × Follows whole x ks
closing (taking t) = inl t
closing (past (by_token f)) = inr (refl, f)

opened_name_at : {limit depth : ℕ} {whole : Bool} {fs : Frames} {x : Stack} {ks : List TokenKind} (c : Context) (k : TokenKind) →
    (Follows whole x ks → Takes limit whole depth fs ks (takes 1 ((0, frame.Enclosed c) ∷ []))) →
    (k ≡ token.LeftBracket → Takes limit whole depth fs ks (takes 1 ((0, frame.OpenedPair c) ∷ []))) →
    Takes limit whole depth fs ks (parenthesized c (behind_path context.Expression ending.Name k)) ⊎ (k ≡ token.RightParen) × Follows whole x ks →
    Takes limit whole depth fs ks (machine.opened_name c k)
opened_name_at c token.RightParen close index (inl t) = elim t [ ]
opened_name_at c token.RightParen close index (inr h) = close h.1
opened_name_at c token.LeftBracket close index t = index refl
opened_name_at c _ close index (inl t) = t
opened_name_at c _ close index (inr h) = let same = h.0 in absurd cc

within_parentheses : {limit depth : ℕ} {whole : Bool} {fs : Frames} {x : Stack} {k : TokenKind} {ks : List TokenKind} {move : Move} (c : Context) →
    Takes limit whole (suc depth) ((suc depth, frame.Expect token.RightParen) ∷ (depth, frame.Path c ending.Other) ∷ fs) ks move ⊎
    (k ≡ token.RightParen) × Follows whole x ks →
    Takes limit whole depth fs ks (parenthesized c move) ⊎ (k ≡ token.RightParen) × Follows whole x ks
within_parentheses c (inl t) = inl (takes_within 1 ((1, frame.Expect token.RightParen) ∷ (0, frame.Path c ending.Other) ∷ []) t)
within_parentheses c (inr h) = inr h

index_opened : {limit depth room : ℕ} {whole closed : Bool} {c : Context} {fs : Frames} {rest inner index stack : Stack} {ks : List TokenKind} →
    depth + suc room ≡ limit → ClosesPath c fs → Orderly fs → Means limit closed fs stack → may_cast c ≡ true → More (suc room) c ending.Other rest →
    More room context.Expression ending.Place inner → Indexed room (inner ++ ((room, a token.RightParen) ∷ (rest ++ stack))) index → Follows whole index ks →
    Takes limit whole depth fs ks (takes 1 ((0, frame.OpenedPair c) ∷ []))
index_opened {whole = whole} {rest = rest} {inner = inner} {stack = stack} {ks = ks} e closes orderly m may more place (means.indexed {room = r}) f =
    takes_it (omega (arith, e)) (closes, orderly) (a_frame e (means.opened_pair may (means.index_in_parentheses place more)) m)
    (subst (λ z. Follows whole ((r, part table.expression) ∷ (r, a token.RightBracket) ∷ z) ks)
    (sym (append_assoc inner ((suc r, a token.RightParen) ∷ rest) stack)) f)

pub opened_name_step : {limit depth room : ℕ} {whole closed : Bool} {c : Context} {fs : Frames} {own stack : Stack} {k : TokenKind} {ks : List TokenKind} →
    depth + room ≡ limit → ClosesPath c fs → Orderly fs → Means limit closed fs stack → may_cast c ≡ true → OpensNamed room c own →
    Follows whole (own ++ stack) (k ∷ ks) →
    Takes limit whole depth fs ks (machine.opened_name c k)
opened_name_step {limit} {depth} {whole = whole} {c = c} {fs = fs} {stack = stack} {k = k} {ks = ks} e closes orderly m may
    (means.named_in_parentheses {room = r} {inside = inner} {rest = rest} paths more) f =
    opened_name_at c k
    (λ g. takes_it (omega (arith, e)) (closes, orderly) (a_frame e (means.enclosed may more) m) g)
    (λ same. let h = path_index order.closes_parenthesis frames paths
    (subst (λ j. Follows whole (inner ++ ((r, a token.RightParen) ∷ (rest ++ stack))) (j ∷ ks)) same out) in
    index_opened e closes orderly m may more h.2 h.3 h.4)
    (within_parentheses c (closing (path_step (omega (arith, e)) order.closes_parenthesis (tt, (closes, orderly)) frames paths out)))
  where
    out : Follows whole (inner ++ ((r, a token.RightParen) ∷ (rest ++ stack))) (k ∷ ks)
    out = subst (λ z. Follows whole z (k ∷ ks)) (append_assoc inner ((r, a token.RightParen) ∷ rest) stack) f

    frames : Means limit false ((suc depth, frame.Expect token.RightParen) ∷ (depth, frame.Path c ending.Other) ∷ fs) ((r, a token.RightParen) ∷ (rest ++ stack))
    frames = a_frame (omega (arith, e)) means.expected (a_frame e (means.path (means.as_it_ends more)) m)
opened_name_step e closes orderly m may (means.named_of_cast behind) (by_part table.no_brackets (by_token f)) =
    takes_it (omega (arith, e)) (closes, orderly) (a_frame e (means.enclosed_cast behind) m) f
opened_name_step e closes orderly m may (means.named_of_cast behind) (by_part table.more_brackets (by_token f)) =
    takes_it (omega (arith, e)) (closes, orderly) (a_frame e (means.opened_pair may (means.pair_of_cast behind)) m) f

-- ---- behind a name and a bracket

opened_pair_at : {limit depth : ℕ} {whole : Bool} {fs : Frames} {ks : List TokenKind} (c : Context) (k : TokenKind) →
    Takes limit whole depth fs ks
    (indexed 2 ((1, frame.Path context.Expression ending.Place) ∷ (1, frame.Expect token.RightParen) ∷ (0, frame.Path c ending.Other) ∷ []) k) →
    Takes limit whole depth fs ks (machine.opened_pair c k)
opened_pair_at c token.RightBracket t = elim t [ ]
opened_pair_at c _ t = t

pub opened_pair_step : {limit depth room : ℕ} {whole closed : Bool} {c : Context} {fs : Frames} {own stack : Stack} {k : TokenKind} {ks : List TokenKind} →
    depth + room ≡ limit → ClosesPath c fs → Orderly fs → Means limit closed fs stack → may_cast c ≡ true → OpensPair room c own →
    Follows whole (own ++ stack) (k ∷ ks) →
    Takes limit whole depth fs ks (machine.opened_pair c k)
opened_pair_step {whole = whole} {c = c} {stack = stack} {k = k} {ks = ks} e closes orderly m may
    (means.index_in_parentheses {room = r} {inside = inner} {rest = rest} place more) f =
    opened_pair_at c k (takes_within 2
    ((2, frame.Expect token.RightBracket) ∷ (1, frame.Path context.Expression ending.Place) ∷ (1, frame.Expect token.RightParen)
    ∷ (0, frame.Path c ending.Other) ∷ [])
    (expression_takes (omega (arith, e)) order.closes_index (tt, (order.closes_parenthesis, (tt, (closes, orderly))))
    (a_frame (omega (arith, e)) means.expected (a_frame (omega (arith, e)) (means.path (means.as_it_ends place))
    (a_frame (omega (arith, e)) means.expected (a_frame e (means.path (means.as_it_ends more)) m))))
    (subst (λ z. Follows whole ((r, part table.expression) ∷ (r, a token.RightBracket) ∷ z) (k ∷ ks))
    (append_assoc inner ((suc r, a token.RightParen) ∷ rest) stack) f)))
opened_pair_step e closes orderly m may (means.pair_of_cast behind) (by_token f) =
    takes_it (omega (arith, e)) (closes, orderly) (a_frame e (means.cast_type (means.named_type behind)) m) f

-- ---- the type of a cast

pub cast_type_step : {limit depth room : ℕ} {whole closed primitive : Bool} {c : Context} {fs : Frames} {own stack : Stack} {k : TokenKind} {ks : List TokenKind} →
    depth + room ≡ limit → ClosesPath c fs → Orderly fs → Means limit closed fs stack → Casts room primitive c own → Follows whole (own ++ stack) (k ∷ ks) →
    Takes limit whole depth fs ks (machine.cast_type primitive c k)
cast_type_step e closes orderly m (means.primitive_type (means.behind_first t)) (by_part table.no_brackets (by_token f)) =
    takes_it (omega (arith, e)) (order.before_operators closes, (closes, orderly)) (a_deep_frame e means.an_operand (a_frame e (means.operators t) m)) f
cast_type_step e closes orderly m (means.primitive_type means.behind_other) (by_part table.no_brackets (by_token f)) =
    takes_it (omega (arith, e)) (closes, orderly) (a_deep_frame e means.an_operand m) f
cast_type_step e closes orderly m (means.named_type (means.behind_first t)) (by_part table.no_brackets (by_token f)) =
    takes_it (omega (arith, e)) (order.before_operators closes, (closes, orderly)) (a_deep_frame e means.an_unsigned (a_frame e (means.operators t) m)) f
cast_type_step e closes orderly m (means.named_type means.behind_other) (by_part table.no_brackets (by_token f)) =
    takes_it (omega (arith, e)) (closes, orderly) (a_deep_frame e means.an_unsigned m) f
cast_type_step e closes orderly m (means.primitive_type behind) (by_part table.more_brackets (by_token f)) =
    takes_it (omega (arith, e)) (tt, (closes, orderly)) (a_frame (omega (arith, e)) means.expected (a_frame e (means.cast_type (means.primitive_type behind)) m)) f
cast_type_step e closes orderly m (means.named_type behind) (by_part table.more_brackets (by_token f)) =
    takes_it (omega (arith, e)) (tt, (closes, orderly)) (a_frame (omega (arith, e)) means.expected (a_frame e (means.cast_type (means.named_type behind)) m)) f

-- ---- behind a name in parentheses

unsigned_apart : (k : TokenKind) → is_behind_operand k ≡ true → begins_unsigned k ≡ false
unsigned_apart token.RightParen is = refl
unsigned_apart _ is = cc

literal_unsigned : (k : TokenKind) → is_literal k ≡ true → begins_unsigned k ≡ true
literal_unsigned token.IntLiteral is = refl
literal_unsigned _ is = cc

negation_unsigned : (k : TokenKind) → is_negation k ≡ true → begins_unsigned k ≡ true
negation_unsigned token.Bang is = refl
negation_unsigned _ is = cc

pub unsigned_unsigned : (k : TokenKind) → begins_unsigned k ≡ true → is_sign k ≡ false
unsigned_unsigned token.Bang is = refl
unsigned_unsigned _ is = cc

primary_unsigned : {whole : Bool} {room : ℕ} {x : Stack} {k : TokenKind} {ks : List TokenKind} → Follows whole ((room, part table.primary) ∷ x) (k ∷ ks) →
    begins_unsigned k ≡ true
primary_unsigned {k = k} (by_part table.of_literal (by_class is f)) = literal_unsigned k is
primary_unsigned (by_part table.of_this (by_token f)) = refl
primary_unsigned (by_part table.of_parenthesized (by_deep table.in_parentheses (by_token f))) = refl
primary_unsigned (by_part table.of_name (by_token f)) = refl
primary_unsigned (by_part table.of_simple_call (by_token f)) = refl
primary_unsigned (by_part table.of_super_call (by_token f)) = refl
primary_unsigned (by_part table.of_new_object (by_token f)) = refl
primary_unsigned (by_part table.of_new_array (by_token f)) = refl
primary_unsigned (by_part table.of_filled_array (by_token f)) = refl

created_unsigned : {whole : Bool} {room : ℕ} {x : Stack} {k : TokenKind} {ks : List TokenKind} → Follows whole ((room, part table.open_creation) ∷ x) (k ∷ ks) →
    begins_unsigned k ≡ true
created_unsigned (by_part table.of_open_creation (by_token f)) = refl

target_unsigned : {whole : Bool} {room : ℕ} {x : Stack} {k : TokenKind} {ks : List TokenKind} → Follows whole ((room, part table.target) ∷ x) (k ∷ ks) →
    begins_unsigned k ≡ true
target_unsigned (by_part table.of_name_target (by_token f)) = refl
target_unsigned (by_part table.of_place_target f) = primary_unsigned f
target_unsigned (by_part table.of_created_field f) = created_unsigned f
target_unsigned (by_part table.of_created_place f) = created_unsigned f

postfix_unsigned : {whole : Bool} {room : ℕ} {x : Stack} {k : TokenKind} {ks : List TokenKind} → Follows whole ((room, part table.postfix) ∷ x) (k ∷ ks) →
    begins_unsigned k ≡ true
postfix_unsigned (by_part table.of_path (by_part table.of_members f)) = primary_unsigned f
postfix_unsigned (by_part table.of_path (by_part table.of_created f)) = created_unsigned f
postfix_unsigned (by_part table.of_stepped f) = target_unsigned f

pub unsigned_kind : {whole : Bool} {room : ℕ} {x : Stack} {k : TokenKind} {ks : List TokenKind} → Follows whole ((room, part table.unsigned) ∷ x) (k ∷ ks) →
    begins_unsigned k ≡ true
unsigned_kind {k = k} (by_part table.of_negation (by_class is f)) = negation_unsigned k is
unsigned_kind (by_part table.of_unsigned_primitive_cast (by_deep table.of_primitive (by_token f))) = refl
unsigned_kind (by_part table.of_unsigned_named_cast (by_deep table.of_named (by_token f))) = refl
unsigned_kind (by_part table.of_unsigned_postfix f) = postfix_unsigned f

-- what stands behind an operand is no operand
after_apart : {limit room : ℕ} {whole closed : Bool} {c : Context} {fs : Frames} {own stack : Stack} {k : TokenKind} {ks : List TokenKind} →
    ClosesPath c fs → Means limit closed fs stack → After room c ending.Other own → Follows whole (own ++ stack) (k ∷ ks) → begins_unsigned k ≡ false
after_apart {k = k} closes m (means.value (means.behind_first t)) f = unsigned_apart k (first_tail_token closes m t f)
after_apart {k = k} closes m (means.value means.behind_other) f = unsigned_apart k (behind_token closes m f)
after_apart closes m (means.stepped ends behind) f = absurd cc
after_apart closes m (means.stepped_effect ends) f = absurd cc
after_apart closes m (means.assigned ends) f = absurd cc
after_apart closes m (means.assigned_effect ends) f = absurd cc
after_apart closes m (means.as_target ends) f = absurd cc

more_apart : {limit room : ℕ} {whole closed : Bool} {c : Context} {fs : Frames} {own stack : Stack} {k : TokenKind} {ks : List TokenKind} →
    ClosesPath c fs → Means limit closed fs stack → More room c ending.Other own → Follows whole (own ++ stack) (k ∷ ks) → begins_unsigned k ≡ false
more_apart closes m (means.no_more after) f = after_apart closes m after f
more_apart closes m (means.more_places more) (by_part table.of_field (by_token f)) = refl
more_apart closes m (means.more_places more) (by_part table.of_element (by_deep table.of_index (by_token f))) = refl
more_apart closes m (means.more_calls more) (by_token f) = refl

enclosed_as : (c : Context) (k : TokenKind) (b : Bool) → begins_unsigned k ≡ b →
    machine.enclosed c k ≡ (if b then inside 1 (rest_of c) (begins context.Operand k) else behind_path c ending.Other k)
enclosed_as c k b is = ap (λ x. if x then inside 1 (rest_of c) (begins context.Operand k) else behind_path c ending.Other k) is

pub enclosed_step : {limit depth room : ℕ} {whole closed : Bool} {c : Context} {fs : Frames} {own stack : Stack} {k : TokenKind} {ks : List TokenKind} →
    depth + room ≡ limit → ClosesPath c fs → Orderly fs → Means limit closed fs stack → More room c ending.Other own → Follows whole (own ++ stack) (k ∷ ks) →
    FStep limit whole depth fs stack k ks (machine.enclosed c k)
enclosed_step {limit} {depth} {whole = whole} {c = c} {fs = fs} {stack = stack} {k = k} {ks = ks} e closes orderly m more f =
    subst (FStep limit whole depth fs stack k ks) (sym (enclosed_as c k false (more_apart closes m more f))) (more_step e closes orderly m more f)

pub enclosed_cast_step : {limit depth room : ℕ} {whole closed : Bool} {c : Context} {fs : Frames} {own stack : Stack} {k : TokenKind} {ks : List TokenKind} →
    depth + room ≡ limit → ClosesPath c fs → Orderly fs → Means limit closed fs stack → Behind room c own →
    Follows whole ((room, deep table.unsigned) ∷ (own ++ stack)) (k ∷ ks) → Takes limit whole depth fs ks (machine.enclosed c k)
enclosed_cast_step {limit} {depth} {whole = whole} {fs = fs} {own = own} {stack = stack} {k = k} {ks = ks} e closes orderly m
    (means.behind_first t) (by_deep {room = r} is f) =
    subst (Takes limit whole depth fs ks) (sym (enclosed_as context.Expression k true (unsigned_kind (by_part {room = r} is f))))
    (takes_within 1 ((0, frame.Operators false) ∷ [])
    (begun_takes (omega (arith, e)) (order.before_operators closes) (closes, orderly) (a_frame e (means.operators t) m)
    (unsigned_begun (own ++ stack) means.behind_other (by_part {room = r} is f))))
enclosed_cast_step {limit} {depth} {whole = whole} {fs = fs} {own = own} {stack = stack} {k = k} {ks = ks} e closes orderly m
    means.behind_other (by_deep {room = r} is f) =
    subst (Takes limit whole depth fs ks) (sym (enclosed_as context.Operand k true (unsigned_kind (by_part {room = r} is f))))
    (takes_within 1 [] (begun_takes (omega (arith, e)) closes orderly m (unsigned_begun stack means.behind_other (by_part {room = r} is f))))
