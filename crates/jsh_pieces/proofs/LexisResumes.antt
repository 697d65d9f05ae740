-- A text that goes on is lexed from where its last comment opens, or else from its end, where it ends with a line feed.
use Rattle.std.proofs.Common.{◌≡◌, ℕ, zero, suc, ◌-◌, ◌<◌, ◌≤◌, inl, inr, Bool, true, false, cond, List, [], ◌∷◌, ◌++◌, length, take, drop, get_or, Some, None, refl, sym, ap, subst, ◌∙◌, append_assoc, append-nil, length-append, arith}
use Rattle.std.proofs.Math.Seq.{take-append_seam}
use Rattle.std.proofs.lemmas.Bool.{eqb-true, eq-eqb}
use Rattle.std.proofs.lemmas.List.{drop-append-le}
use Rattle.std.proofs.lemmas.Str.{encodes-chars, chars-append, IsUtf8-append, IsUtf8-take, IsUtf8-from_ascii, IsCharBoundary-at_seam, chars-IsAscii, chars-nil}
use Rattle.std.specs.Str.{chars, IsUtf8, IsAscii}
use Rattle.jsh_tree.specs.declared.token.Token.{Token}
use Rattle.jsh_lex.specs.declared.lexeme.LexFault.TheVariants.{OpenComment}
use Rattle.jsh_lex.specs.declared.lexeme.Lexeme.{Lexeme}
use Rattle.jsh_lex.specs.declared.lexeme.Lexeme.TheVariants.{Gap, Spelled, Wrong}
use Rattle.jsh_tree.specs.Text.{is_white}
use Rattle.jsh_lex.specs.Chars.{drop_while, width}
use Rattle.jsh_lex.specs.Lexis.{Front, Lexed, front, lexed, add_lexeme, place, tokens}
use Rattle.jsh_pieces.specs.Pieces.{moved_lexed, joined, ends_line, CanResume}
use Rattle.jsh_pieces.proofs.LexisSteps.{IsRight, taken, width-append, drop_while_le, leaves_fewer, lexed_same}
use Rattle.jsh_pieces.proofs.LexisBehind.{Halves, half_lexed, half_place, chars_fit}
use Rattle.jsh_pieces.proofs.LexisFronts.{front_goes_on}
use Rattle.jsh_pieces.proofs.LexisMarks.{ends_later, marked_by_line, stops_by_line, marked_by_opening, stops_by_opening, has_opening, opening_behind}
use Rattle.jsh_pieces.proofs.LexisOpen.{fault_opens, same_place}

-- ---- white space in front

if_true : (b : Bool) (x y : Front) → b ≡ true → cond b x y ≡ x
if_true true x y e = refl
if_true false x y e = cc

front_white : (c : ℕ) (cs : List ℕ) → is_white c ≡ true → front (c ∷ cs) ≡ (Gap, drop_while is_white cs)
unfolding front
front_white c cs h = if_true (is_white c) _ _ h

lexed_white : (n : ℕ) (text : List ℕ) (c : ℕ) (cs : List ℕ) → is_white c ≡ true → lexed (suc n) text (c ∷ cs) ≡ lexed n text (drop_while is_white cs)
lexed_white n text c cs h = ap (λ (x : Front). add_lexeme x.0 (place text (c ∷ cs)) (place text x.1) (lexed n text x.1)) (front_white c cs h)

-- a gap of white space adds nothing, however much of it is left
skip_white : (n m : ℕ) (text cs : List ℕ) → length cs ≤ n → length cs ≤ m → lexed n text (drop_while is_white cs) ≡ lexed m text cs
skip_white n m text [] h k = lexed_same n m text [] h k
skip_white n zero text (c ∷ cs) h k = absurd (omega arith)
skip_white n (suc m) text (c ∷ cs) h k =
    let go : (b : Bool) → is_white c ≡ b → lexed n text (cond b (drop_while is_white cs) (c ∷ cs)) ≡ lexed (suc m) text (c ∷ cs)
    = λ b. elim b as (λ v. is_white c ≡ v → lexed n text (cond v (drop_while is_white cs) (c ∷ cs)) ≡ lexed (suc m) text (c ∷ cs)) [
      | true ↦ λ e.
          let less = drop_while_le is_white cs in
          lexed_same n m text (drop_while is_white cs) (omega arith) (omega arith) ∙ sym (lexed_white m text c cs e)
      | false ↦ λ e. lexed_same n (suc m) text (c ∷ cs) h k
    ] in
    go (is_white c) refl

white_dropped : (n m : ℕ) (text : List ℕ) (c : ℕ) (cs : List ℕ) → is_white c ≡ true → length cs ≤ n → length cs ≤ m → lexed (suc n) text (c ∷ cs) ≡ lexed m text cs
white_dropped n m text c cs e h k = lexed_white n text c cs e ∙ skip_white n m text cs h k

-- ---- one lexeme

pub place_same : (text cs more : List ℕ) → place (text ++ more) (cs ++ more) ≡ place text cs
place_same text cs more = omega (arith, width-append text more, width-append cs more)

-- a lexeme that the longer text has, too, is followed there by what follows it here
kept : (n m : ℕ) (text : List ℕ) (c : ℕ) (cs more : List ℕ) (last : Lexed) → IsRight (front (c ∷ cs)).0
    → front (c ∷ (cs ++ more)) ≡ ((front (c ∷ cs)).0, (front (c ∷ cs)).1 ++ more)
    → lexed m (text ++ more) ((front (c ∷ cs)).1 ++ more) ≡ joined (lexed n text (front (c ∷ cs)).1).tokens last
    → lexed (suc m) (text ++ more) (c ∷ (cs ++ more)) ≡ joined (lexed (suc n) text (c ∷ cs)).tokens last
kept n m text c cs more last right same later =
    let rest = (front (c ∷ cs)).1 in
    let longer = text ++ more in
    let added : Lexeme → ℕ → ℕ → Lexed = λ l from to. add_lexeme l from to (lexed m longer (rest ++ more)) in
    let go : (l : Lexeme) → IsRight l
    → added l (place text (c ∷ cs)) (place text rest) ≡ joined (add_lexeme l (place text (c ∷ cs)) (place text rest) (lexed n text rest)).tokens last
    = λ l. elim l as (λ v. IsRight v
    → added v (place text (c ∷ cs)) (place text rest) ≡ joined (add_lexeme v (place text (c ∷ cs)) (place text rest) (lexed n text rest)).tokens last) [
      | Gap ↦ λ r. later
      | Spelled kind ↦ λ r. ap (add_lexeme (Spelled kind) (place text (c ∷ cs)) (place text rest)) later
      | Wrong fault ↦ λ r. absurd r
    ] in
    ap (λ (x : Front). add_lexeme x.0 (place longer (c ∷ (cs ++ more))) (place longer x.1) (lexed m longer x.1)) same
    ∙ (ap (λ k. added (front (c ∷ cs)).0 k (place longer (rest ++ more))) (place_same text (c ∷ cs) more)
    ∙ (ap (λ k. added (front (c ∷ cs)).0 (place text (c ∷ cs)) k) (place_same text rest more)
    ∙ go (front (c ∷ cs)).0 right))

-- a lexeme in front of a text without fault is none, and what follows has none
right_from_none : (l : Lexeme) (from to : ℕ) (more : Lexed) → (add_lexeme l from to more).fault ≡ None → IsRight l
right_from_none Gap from to more e = tt
right_from_none (Spelled kind) from to more e = tt
right_from_none (Wrong fault) from to more e = cc

same_fault : (l : Lexeme) (from to : ℕ) (more : Lexed) → IsRight l → (add_lexeme l from to more).fault ≡ more.fault
same_fault Gap from to more r = refl
same_fault (Spelled kind) from to more r = refl
same_fault (Wrong fault) from to more r = absurd r

-- ---- behind a line feed

resumes_line : (n m : ℕ) (text cs more : List ℕ) (last : Lexed) → ((k : ℕ) → length more ≤ k → lexed k (text ++ more) more ≡ last)
    → ends_line cs ≡ true → length cs ≤ n → length (cs ++ more) ≤ m → (lexed n text cs).fault ≡ None
    → lexed m (text ++ more) (cs ++ more) ≡ joined (lexed n text cs).tokens last
resumes_line zero m text [] more last base ends fits fit none = base m fit
resumes_line (suc n) m text [] more last base ends fits fit none = base m fit
resumes_line zero m text (c ∷ cs) more last base ends fits fit none = absurd (omega arith)
resumes_line (suc n) zero text (c ∷ cs) more last base ends fits fit none = absurd (omega arith)
resumes_line (suc n) (suc m) text (c ∷ cs) more last base ends fits fit none =
    let rest = (front (c ∷ cs)).1 in
    let go : (b : Bool) → is_white c ≡ b → lexed (suc m) (text ++ more) (c ∷ (cs ++ more)) ≡ joined (lexed (suc n) text (c ∷ cs)).tokens last
    = λ b. elim b as (λ v. is_white c ≡ v → lexed (suc m) (text ++ more) (c ∷ (cs ++ more)) ≡ joined (lexed (suc n) text (c ∷ cs)).tokens last) [
      | true ↦ λ white.
          let here = white_dropped n n text c cs white (omega arith) (omega arith) in
          white_dropped m m (text ++ more) c (cs ++ more) white (omega arith) (omega arith)
          ∙ (resumes_line n m text cs more last base (ends_later (c ∷ []) cs ends) (omega arith) (omega arith) (sym (ap (λ (l : Lexed). l.fault) here) ∙ none)
          ∙ ap (λ (l : Lexed). joined l.tokens last) (sym here))
      | false ↦ λ black.
          let right = right_from_none (front (c ∷ cs)).0 (place text (c ∷ cs)) (place text rest) (lexed n text rest) none in
          let later = sym (same_fault (front (c ∷ cs)).0 (place text (c ∷ cs)) (place text rest) (lexed n text rest) right) ∙ none in
          let t = taken c cs right in
          let fewer = leaves_fewer c cs right in
          kept n m text c cs more last right ((front_goes_on c cs more black (marked_by_line c cs black ends)).holds right (stops_by_line c cs rest black ends))
          (resumes_line n m text rest more last base (ends_later t.s rest (sym (ap ends_line t.parts) ∙ ends)) (omega arith)
          (omega (arith, length-append rest more, length-append cs more)) later)
    ] in
    go (is_white c) refl

-- ---- from an opening on

-- the step at a lexeme that an opening follows
open_step : (n m : ℕ) (text : List ℕ) (c : ℕ) (cs more : List ℕ) (last : Lexed) → is_white c ≡ false → IsRight (front (c ∷ cs)).0 → has_opening (front (c ∷ cs)).1 ≡ true
    → lexed m (text ++ more) ((front (c ∷ cs)).1 ++ more) ≡ joined (lexed n text (front (c ∷ cs)).1).tokens last
    → lexed (suc m) (text ++ more) (c ∷ (cs ++ more)) ≡ joined (lexed (suc n) text (c ∷ cs)).tokens last
open_step n m text c cs more last black right opening later =
    let rest = (front (c ∷ cs)).1 in
    let t = taken c cs right in
    let here : has_opening (c ∷ cs) ≡ true = ap has_opening t.parts ∙ opening_behind t.s rest opening in
    kept n m text c cs more last right ((front_goes_on c cs more black (marked_by_opening c cs here)).holds right (stops_by_opening cs rest opening)) later

resumes_open : (n m p : ℕ) (text xs cs more : List ℕ) (last : Lexed)
    → ((ys ds : List ℕ) (k : ℕ) → text ≡ ys ++ ds → place text ds ≡ p → length (ds ++ more) ≤ k → lexed k (text ++ more) (ds ++ more) ≡ last)
    → text ≡ xs ++ cs → length cs ≤ n → length (cs ++ more) ≤ m → (lexed n text cs).fault ≡ Some (OpenComment, p)
    → lexed m (text ++ more) (cs ++ more) ≡ joined (lexed n text cs).tokens last
resumes_open zero m p text xs [] more last base parts fits fit fault = cc
resumes_open (suc n) m p text xs [] more last base parts fits fit fault = cc
resumes_open zero m p text xs (c ∷ cs) more last base parts fits fit fault = absurd (omega arith)
resumes_open (suc n) zero p text xs (c ∷ cs) more last base parts fits fit fault = absurd (omega arith)
resumes_open (suc n) (suc m) p text xs (c ∷ cs) more last base parts fits fit fault =
    let rest = (front (c ∷ cs)).1 in
    let from = place text (c ∷ cs) in
    let to = place text rest in
    let behind = lexed n text rest in
    let longer = lexed (suc m) (text ++ more) (c ∷ (cs ++ more)) in
    let goes_on : is_white c ≡ false → IsRight (front (c ∷ cs)).0 → behind.fault ≡ Some (OpenComment, p) → longer ≡ joined (lexed (suc n) text (c ∷ cs)).tokens last
    = λ black right f.
    let t = taken c cs right in
    let fewer = leaves_fewer c cs right in
    open_step n m text c cs more last black right (fault_opens n text rest p f)
    (resumes_open n m p text (xs ++ t.s) rest more last base (parts ∙ (ap (λ (ys : List ℕ). xs ++ ys) t.parts ∙ sym (append_assoc xs t.s rest))) (omega arith)
    (omega (arith, length-append rest more, length-append cs more)) f) in
    let by_lexeme : is_white c ≡ false → (l : Lexeme) → (front (c ∷ cs)).0 ≡ l → (add_lexeme l from to behind).fault ≡ Some (OpenComment, p)
    → longer ≡ joined (lexed (suc n) text (c ∷ cs)).tokens last
    = λ black l. elim l as (λ v. (front (c ∷ cs)).0 ≡ v → (add_lexeme v from to behind).fault ≡ Some (OpenComment, p) → longer ≡ joined (lexed (suc n) text (c ∷ cs)).tokens last) [
      | Gap ↦ λ e f. goes_on black (subst IsRight (sym e) tt) f
      | Spelled kind ↦ λ e f. goes_on black (subst IsRight (sym e) tt) f
      | Wrong kind ↦ λ e f.
          base xs (c ∷ cs) (suc m) parts (same_place (kind, from) (OpenComment, p) f) fit ∙ ap (λ l. joined (add_lexeme l from to behind).tokens last) (sym e)
    ] in
    let go : (b : Bool) → is_white c ≡ b → longer ≡ joined (lexed (suc n) text (c ∷ cs)).tokens last
    = λ b. elim b as (λ v. is_white c ≡ v → longer ≡ joined (lexed (suc n) text (c ∷ cs)).tokens last) [
      | true ↦ λ white.
          let here = white_dropped n n text c cs white (omega arith) (omega arith) in
          white_dropped m m (text ++ more) c (cs ++ more) white (omega arith) (omega arith)
          ∙ (resumes_open n m p text (xs ++ c ∷ []) cs more last base (parts ∙ sym (append_assoc xs (c ∷ []) cs)) (omega arith) (omega arith)
          (sym (ap (λ (l : Lexed). l.fault) here) ∙ fault)
          ∙ ap (λ (l : Lexed). joined l.tokens last) (sym here))
      | false ↦ λ black. by_lexeme black (front (c ∷ cs)).0 refl fault
    ] in
    go (is_white c) refl

-- ---- texts as bytes

line_split : (c : ℕ) (cs : List ℕ) → ends_line (c ∷ cs) ≡ true → (s : List ℕ) × (c ∷ cs ≡ s ++ 10 ∷ [])
line_split c [] h = ([], ap (λ (x : ℕ). x ∷ []) (eqb-true c 10 h))
line_split c (d ∷ cs) h = let later = line_split d cs h in (c ∷ later.0, ap (λ (xs : List ℕ). c ∷ xs) later.1)

ends_there : (s : List ℕ) → ends_line (s ++ 10 ∷ []) ≡ true
ends_there [] = refl
ends_there (c ∷ []) = refl
ends_there (c ∷ d ∷ s) = ends_there (d ∷ s)

line_feed_ascii : IsAscii (10 ∷ [])
line_feed_ascii zero = omega arith
line_feed_ascii (suc i) = omega arith

pub ends_chars : (text : List ℕ) → IsUtf8 text → ends_line text ≡ true → ends_line (chars text) ≡ true
ends_chars [] u h = ap ends_line chars-nil
ends_chars (c ∷ cs) u h =
    let split = line_split c cs h in
    let s = split.0 in
    let boundary = IsCharBoundary-at_seam (c ∷ cs) s (10 ∷ []) split.1 (IsUtf8-from_ascii (10 ∷ []) line_feed_ascii) in
    let front : take (length s) (c ∷ cs) ≡ s = ap (take (length s)) split.1 ∙ take-append_seam s (10 ∷ []) in
    let utf8 : IsUtf8 s = subst IsUtf8 front (IsUtf8-take (c ∷ cs) (length s) u boundary) in
    let parts : chars (c ∷ cs) ≡ chars s ++ 10 ∷ [] =
    ap chars split.1 ∙ (chars-append s (10 ∷ []) utf8 ∙ ap (λ (xs : List ℕ). chars s ++ xs) (chars-IsAscii (10 ∷ []) line_feed_ascii)) in
    ap ends_line parts ∙ ends_there (chars s)

-- a text ends with a line feed where its last byte is one
pub ends_line_at_last : (text : List ℕ) → 0 < length text → get_or text (length text - 1) 0 ≡ 10 → ends_line text ≡ true
ends_line_at_last [] some h = absurd (omega arith)
ends_line_at_last (c ∷ []) some h = eq-eqb c 10 h
ends_line_at_last (c ∷ d ∷ cs) some h =
    let at : length (c ∷ d ∷ cs) - 1 ≡ suc (length (d ∷ cs) - 1) = omega arith in
    ends_line_at_last (d ∷ cs) (omega arith) (sym (ap (λ k. get_or (c ∷ d ∷ cs) k 0) at) ∙ h)

-- what is behind a place, with more behind it, as a text of its own
pub behind_place : (text more ys ds : List ℕ) (k : ℕ) → IsUtf8 text → IsUtf8 more → chars text ≡ ys ++ ds → length (ds ++ chars more) ≤ k
    → lexed k (chars text ++ chars more) (ds ++ chars more) ≡ moved_lexed (width ys) (tokens (drop (width ys) text ++ more))
behind_place text more ys ds k u v parts fits =
    let half : Halves text ys ds = record { utf8 = u; parts = parts } in
    let longer : Halves (text ++ more) ys (ds ++ chars more) = record {
      utf8 = IsUtf8-append text more u v;
      parts = chars-append text more u ∙ (ap (λ (xs : List ℕ). xs ++ chars more) parts ∙ append_assoc ys ds (chars more));
    } in
    let within : width ys ≤ length text = omega (arith, ap width parts, width-append ys ds, ap length (encodes-chars text u)) in
    ap (λ (xs : List ℕ). lexed k xs (ds ++ chars more)) (sym (chars-append text more u))
    ∙ (half_lexed k (text ++ more) ys (ds ++ chars more) longer fits
    ∙ ap (λ (xs : List ℕ). moved_lexed (width ys) (tokens xs)) (drop-append-le (width ys) text more within))

-- the text with more behind it, from the characters of both
from_chars : (text more : List ℕ) (before : List Token) (last : Lexed) → IsUtf8 text → IsUtf8 more
    → ((m : ℕ) → length (chars text ++ chars more) ≤ m → lexed m (chars text ++ chars more) (chars text ++ chars more) ≡ joined before last)
    → tokens (text ++ more) ≡ joined before last
unfolding tokens
from_chars text more before last u v h =
    let both = chars-append text more u in
    ap (λ (xs : List ℕ). lexed (length (text ++ more)) xs xs) both
    ∙ h (length (text ++ more)) (omega (arith, ap length both, chars_fit (text ++ more) (IsUtf8-append text more u v)))

pub resumes : (text more : List ℕ) (p : ℕ) → IsUtf8 text → IsUtf8 more → CanResume text p
    → tokens (text ++ more) ≡ joined (tokens text).tokens (moved_lexed p (tokens (drop p text ++ more)))
unfolding tokens
resumes text more p u v (inl (none, at_end, ends)) =
    let last = moved_lexed p (tokens (drop p text ++ more)) in
    let size : width (chars text) ≡ p = ap length (encodes-chars text u) ∙ sym at_end in
    let base : (k : ℕ) → length (chars more) ≤ k → lexed k (chars text ++ chars more) (chars more) ≡ last
    = λ k fits. behind_place text more (chars text) [] k u v (sym (append-nil (chars text))) fits ∙ ap (λ w. moved_lexed w (tokens (drop w text ++ more))) size in
    from_chars text more (tokens text).tokens last u v
    (λ m fits. resumes_line (length text) m (chars text) (chars text) (chars more) last base (ends_chars text u ends) (chars_fit text u) fits none)
resumes text more p u v (inr fault) =
    let last = moved_lexed p (tokens (drop p text ++ more)) in
    let base : (ys ds : List ℕ) (k : ℕ) → chars text ≡ ys ++ ds → place (chars text) ds ≡ p → length (ds ++ chars more) ≤ k
    → lexed k (chars text ++ chars more) (ds ++ chars more) ≡ last
    = λ ys ds k parts at fits.
    behind_place text more ys ds k u v parts fits
    ∙ ap (λ w. moved_lexed w (tokens (drop w text ++ more))) (sym (half_place text ys ds (record { utf8 = u; parts = parts })) ∙ at) in
    from_chars text more (tokens text).tokens last u v
    (λ m fits. resumes_open (length text) m p (chars text) [] (chars text) (chars more) last base refl (chars_fit text u) fits fault)
