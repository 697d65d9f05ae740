-- Behind a token a text is lexed as if it began there.
use Rattle.std.proofs.Common.{◌≡◌, ℕ, zero, suc, ◌≤◌, true, List, [], ◌∷◌, ◌++◌, length, drop, refl, sym, ap, subst, ◌∙◌, append_assoc, length-append, arith}
use Rattle.std.proofs.Math.Seq.{drop-append_seam}
use Rattle.std.proofs.Math.Utf8.{scalars, scalar}
use Rattle.std.proofs.lemmas.Bool.{and_parts}
use Rattle.std.proofs.lemmas.Str.{encodes-chars, encodes-append, chars-encodes, scalars-chars, length-le-encodes}
use Rattle.std.specs.Prelude.{encode_utf8_all}
use Rattle.std.specs.Str.{chars, IsUtf8}
use Rattle.jsh_tree.specs.declared.token.Token.{Token}
use Rattle.jsh_tree.specs.declared.token.TokenKind.{TokenKind}
use Rattle.jsh_lex.specs.declared.lexeme.Lexeme.{Lexeme}
use Rattle.jsh_lex.specs.declared.lexeme.Lexeme.TheVariants.{Gap, Spelled, Wrong}
use Rattle.jsh_lex.specs.Chars.{width}
use Rattle.jsh_lex.specs.Lexis.{front, lexed, add_lexeme, add_token, place, tokens}
use Rattle.jsh_pieces.specs.Pieces.{moved_lexed, joined}
use Rattle.jsh_pieces.proofs.LexisSteps.{IsRight, Taken, taken, width-append, lexed_same, lexed_moved}

right_scalars : (xs ys : List ℕ) → scalars (xs ++ ys) ≡ true → scalars ys ≡ true
right_scalars [] ys h = h
right_scalars (x ∷ xs) ys h = right_scalars xs ys (and_parts (scalar x) (scalars (xs ++ ys)) h).1

-- a text in two, of which the first has these characters and the other those
pub record Halves (bytes xs cs : List ℕ) : Type 0 where
  pub utf8 : IsUtf8 bytes
  pub parts : chars bytes ≡ xs ++ cs

pub later_half : (bytes xs cs s rest : List ℕ) → cs ≡ s ++ rest → Halves bytes xs cs → Halves bytes (xs ++ s) rest
later_half bytes xs cs s rest e h =
    record { utf8 = h.utf8; parts = h.parts ∙ (ap (λ (ys : List ℕ). xs ++ ys) e ∙ sym (append_assoc xs s rest)) }

pub half_place : (bytes xs cs : List ℕ) → Halves bytes xs cs → place (chars bytes) cs ≡ width xs
half_place bytes xs cs h = omega (arith, ap width h.parts, width-append xs cs)

pub half_bytes : (bytes xs cs : List ℕ) → Halves bytes xs cs → drop (width xs) bytes ≡ encode_utf8_all cs
half_bytes bytes xs cs h =
    ap (drop (width xs)) (sym (encodes-chars bytes h.utf8) ∙ (ap encode_utf8_all h.parts ∙ encodes-append xs cs))
    ∙ drop-append_seam (encode_utf8_all xs) (encode_utf8_all cs)

pub half_scalars : (bytes xs cs : List ℕ) → Halves bytes xs cs → scalars cs ≡ true
half_scalars bytes xs cs h = right_scalars xs cs (ap scalars (sym h.parts) ∙ scalars-chars bytes h.utf8)

pub half_chars : (bytes xs cs : List ℕ) → Halves bytes xs cs → chars (drop (width xs) bytes) ≡ cs
half_chars bytes xs cs h = ap chars (half_bytes bytes xs cs h) ∙ chars-encodes cs (half_scalars bytes xs cs h)

-- the rest as a text of its own
pub half_tokens : (n : ℕ) (bytes xs cs : List ℕ) → Halves bytes xs cs → length cs ≤ n → lexed n cs cs ≡ tokens (drop (width xs) bytes)
unfolding tokens
half_tokens n bytes xs cs h fits =
    let rest = drop (width xs) bytes in
    lexed_same n (length rest) cs cs fits (omega (arith, ap length (half_bytes bytes xs cs h), length-le-encodes cs))
    ∙ ap (λ (ys : List ℕ). lexed (length rest) ys ys) (sym (half_chars bytes xs cs h))

-- the tokens of the rest, as those of a text of its own
pub half_lexed : (n : ℕ) (bytes xs cs : List ℕ) → Halves bytes xs cs → length cs ≤ n → lexed n (chars bytes) cs ≡ moved_lexed (width xs) (tokens (drop (width xs) bytes))
half_lexed n bytes xs cs h fits =
    ap (λ (ys : List ℕ). lexed n ys cs) h.parts ∙ (lexed_moved n xs cs cs (omega arith) ∙ ap (moved_lexed (width xs)) (half_tokens n bytes xs cs h fits))

no_tokens : (ps qs : List Token) (t : Token) → [] ≡ ps ++ t ∷ qs → ⊥
no_tokens [] qs t e = cc
no_tokens (p ∷ ps) qs t e = cc

-- behind a token of the rest
behind_one : (n : ℕ) (bytes xs cs : List ℕ) (ps qs : List Token) (t : Token) → Halves bytes xs cs → length cs ≤ n
    → (lexed n (chars bytes) cs).tokens ≡ ps ++ t ∷ qs
    → lexed n (chars bytes) cs ≡ joined (ps ++ t ∷ []) (moved_lexed t.span.to (tokens (drop t.span.to bytes)))
behind_one zero bytes xs [] ps qs t h fits e = absurd (no_tokens ps qs t e)
behind_one zero bytes xs (c ∷ cs) ps qs t h fits e = absurd (omega arith)
behind_one (suc n) bytes xs [] ps qs t h fits e = absurd (no_tokens ps qs t e)
behind_one (suc n) bytes xs (c ∷ cs) ps qs t h fits e =
    let rest = (front (c ∷ cs)).1 in
    let from = place (chars bytes) (c ∷ cs) in
    let to = place (chars bytes) rest in
    let more = lexed n (chars bytes) rest in
    let half : (k : Taken (c ∷ cs) (front (c ∷ cs))) → Halves bytes (xs ++ k.s) rest = λ k. later_half bytes xs (c ∷ cs) k.s rest k.parts h in
    let fewer : Taken (c ∷ cs) (front (c ∷ cs)) → length rest ≤ n = λ k. omega (arith, k.some, ap length k.parts, length-append k.s rest) in
    let token : (kind : TokenKind) → Token = λ kind. record { kind = kind; span = record { from = from; to = to } } in
    let spelled : (kind : TokenKind) → Taken (c ∷ cs) (front (c ∷ cs)) → (before : List Token) → token kind ∷ more.tokens ≡ before ++ t ∷ qs
    → add_token (token kind) more ≡ joined (before ++ t ∷ []) (moved_lexed t.span.to (tokens (drop t.span.to bytes)))
    = λ kind k before. elim before as (λ v. token kind ∷ more.tokens ≡ v ++ t ∷ qs
    → add_token (token kind) more ≡ joined (v ++ t ∷ []) (moved_lexed t.span.to (tokens (drop t.span.to bytes)))) [
      | [] ↦ λ same.
          let this : token kind ≡ t = cc in
          let later : more ≡ moved_lexed to (tokens (drop to bytes)) =
          half_lexed n bytes (xs ++ k.s) rest (half k) (fewer k)
          ∙ ap (λ w. moved_lexed w (tokens (drop w bytes))) (sym (half_place bytes (xs ++ k.s) rest (half k))) in
          subst (λ (u : Token). add_token (token kind) more ≡ joined (u ∷ []) (moved_lexed u.span.to (tokens (drop u.span.to bytes)))) this
          (ap (add_token (token kind)) later)
      | p ∷ ps ↦ λ same.
          let this : token kind ≡ p = cc in
          let others : more.tokens ≡ ps ++ t ∷ qs = cc in
          ap (add_token (token kind)) (behind_one n bytes (xs ++ k.s) rest ps qs t (half k) (fewer k) others)
          ∙ ap (λ (u : Token). joined (u ∷ (ps ++ t ∷ [])) (moved_lexed t.span.to (tokens (drop t.span.to bytes)))) this
    ] in
    let go : (l : Lexeme) → (IsRight l → Taken (c ∷ cs) (front (c ∷ cs))) → (add_lexeme l from to more).tokens ≡ ps ++ t ∷ qs
    → add_lexeme l from to more ≡ joined (ps ++ t ∷ []) (moved_lexed t.span.to (tokens (drop t.span.to bytes)))
    = λ l. elim l as (λ v. (IsRight v → Taken (c ∷ cs) (front (c ∷ cs))) → (add_lexeme v from to more).tokens ≡ ps ++ t ∷ qs
    → add_lexeme v from to more ≡ joined (ps ++ t ∷ []) (moved_lexed t.span.to (tokens (drop t.span.to bytes)))) [
      | Gap ↦ λ takes k. behind_one n bytes (xs ++ (takes tt).s) rest ps qs t (half (takes tt)) (fewer (takes tt)) k
      | Spelled kind ↦ λ takes k. spelled kind (takes tt) ps k
      | Wrong fault ↦ λ takes k. absurd (no_tokens ps qs t k)
    ] in
    go (front (c ∷ cs)).0 (taken c cs) e

-- a text without a front, and with as many lexemes as it may have
pub whole_half : (bytes : List ℕ) → IsUtf8 bytes → Halves bytes [] (chars bytes)
whole_half bytes u = record { utf8 = u; parts = refl }

pub chars_fit : (bytes : List ℕ) → IsUtf8 bytes → length (chars bytes) ≤ length bytes
chars_fit bytes u = omega (arith, length-le-encodes (chars bytes), ap length (encodes-chars bytes u))

pub behind_token : (text : List ℕ) (ps qs : List Token) (t : Token) → IsUtf8 text → (tokens text).tokens ≡ ps ++ t ∷ qs
    → tokens text ≡ joined (ps ++ t ∷ []) (moved_lexed t.span.to (tokens (drop t.span.to text)))
unfolding tokens
behind_token text ps qs t u e = behind_one (length text) text [] (chars text) ps qs t (whole_half text u) (chars_fit text u) e
