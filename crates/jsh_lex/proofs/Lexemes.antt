-- What a lexeme adds to the tokens of a text.
use Rattle.std.proofs.Common.{◌≡◌, ℕ, zero, suc, ◌-◌, ◌<◌, ◌≤◌, List, [], ◌∷◌, ◌++◌, length, refl, sym, ap, ◌∙◌, append_assoc, append-nil, arith, Some}
use Rattle.std.proofs.lemmas.Str.{encodes-chars, length-le-encodes}
use Rattle.std.specs.Prelude.{encode_utf8_all}
use Rattle.std.specs.Str.{chars, IsUtf8}
use Rattle.jsh_tree.specs.declared.token.Token.{Token}
use Rattle.jsh_tree.specs.declared.token.TokenKind.{TokenKind}
use Rattle.jsh_lex.specs.declared.lexeme.LexFault.{LexFault}
use Rattle.jsh_lex.specs.declared.lexeme.Lexeme.{Lexeme}
use Rattle.jsh_lex.specs.declared.lexeme.Lexeme.TheVariants.{Gap, Spelled, Wrong}
use Rattle.jsh_lex.specs.Chars.{width}
use Rattle.jsh_lex.specs.Lexis.{Lexed, front, lexed, add_lexeme, add_token, place, tokens, whole}

-- tokens in front of others
abbrev pub behind : List Token → Lexed → Lexed
behind before l = record { tokens = before ++ l.tokens; fault = l.fault }

pub behind_add : (before : List Token) (t : Token) (l : Lexed) → behind before (add_token t l) ≡ behind (before ++ t ∷ []) l
behind_add before t l = ap (λ (ts : List Token). let r : Lexed = record { tokens = ts; fault = l.fault } in r) (sym (append_assoc before (t ∷ []) l.tokens))

width-chars : (bytes : List ℕ) → IsUtf8 bytes → width (chars bytes) ≡ length bytes
width-chars bytes u = ap length (encodes-chars bytes u)

place-chars : (text rest : List ℕ) → IsUtf8 text → IsUtf8 rest → place (chars text) (chars rest) ≡ length text - length rest
place-chars text rest t r = ap (λ n. n - width (chars rest)) (width-chars text t) ∙ ap (λ n. length text - n) (width-chars rest r)

pub some_chars : (cs bytes : List ℕ) → encode_utf8_all cs ≡ bytes → 0 < length bytes → 0 < length cs
some_chars [] bytes e h = absurd (omega (arith, ap length e))
some_chars (c ∷ cs) bytes e h = omega arith

-- nothing is left of a text without bytes
no_chars : (cs bytes : List ℕ) → encode_utf8_all cs ≡ bytes → length bytes ≡ 0 → cs ≡ []
no_chars [] bytes e h = refl
no_chars (c ∷ cs) bytes e h = absurd (omega (arith, length-le-encodes (c ∷ cs), ap length e))

lexed-nil : (n : ℕ) (text : List ℕ) → lexed n text [] ≡ whole []
lexed-nil zero text = refl
lexed-nil (suc n) text = refl

first_lexeme : (n : ℕ) (text cs : List ℕ) → 0 < length cs → 0 < n
    → lexed n text cs ≡ add_lexeme (front cs).0 (place text cs) (place text (front cs).1) (lexed (n - 1) text (front cs).1)
first_lexeme zero text cs h k = absurd (omega arith)
first_lexeme (suc n) text [] h k = absurd (omega arith)
first_lexeme (suc n) text (c ∷ cs) h k =
    let e : n ≡ suc n - 1 = omega arith in
    ap (λ m. add_lexeme (front (c ∷ cs)).0 (place text (c ∷ cs)) (place text (front (c ∷ cs)).1) (lexed m text (front (c ∷ cs)).1)) e

-- the tokens of what is left, after its first lexeme, with places counted in bytes
pub lexeme_read : (n : ℕ) (text rest after : List ℕ) (lexeme : Lexeme) → IsUtf8 text → IsUtf8 rest → IsUtf8 after → 0 < length rest → length rest ≤ n
    → lexeme ≡ (front (chars rest)).0 → chars after ≡ (front (chars rest)).1
    → lexed n (chars text) (chars rest) ≡ add_lexeme lexeme (length text - length rest) (length text - length after) (lexed (n - 1) (chars text) (chars after))
lexeme_read n text rest after lexeme t r a some fits is left =
    first_lexeme n (chars text) (chars rest) (some_chars (chars rest) rest (encodes-chars rest r) some) (omega arith)
    ∙ (ap (λ cs. add_lexeme (front (chars rest)).0 (place (chars text) (chars rest)) (place (chars text) cs) (lexed (n - 1) (chars text) cs)) (sym left)
    ∙ (ap (λ x. add_lexeme x (place (chars text) (chars rest)) (place (chars text) (chars after)) (lexed (n - 1) (chars text) (chars after))) (sym is)
    ∙ (ap (λ p. add_lexeme lexeme p (place (chars text) (chars after)) (lexed (n - 1) (chars text) (chars after))) (place-chars text rest t r)
    ∙ ap (λ p. add_lexeme lexeme (length text - length rest) p (lexed (n - 1) (chars text) (chars after))) (place-chars text after t a))))

-- no more is added at the end
pub all_read : (n : ℕ) (text rest : List ℕ) → IsUtf8 rest → length rest ≡ 0 → lexed n (chars text) (chars rest) ≡ whole []
all_read n text rest r none = ap (lexed n (chars text)) (no_chars (chars rest) rest (encodes-chars rest r) none) ∙ lexed-nil n (chars text)

-- what is left of a text after these tokens are read
pub record Left (before : List Token) (text rest : List ℕ) : Type 0 where
  pub at_most : ℕ
  pub fits : length rest ≤ at_most
  pub within : length rest ≤ length text
  pub all : behind before (lexed at_most (chars text) (chars rest)) ≡ tokens text

pub left_at_first : (text : List ℕ) → Left [] text text
unfolding tokens
left_at_first text = record { at_most = length text; fits = omega arith; within = omega arith; all = refl }

pub left_behind_gap : (before : List Token) (text rest after : List ℕ) → IsUtf8 text → IsUtf8 rest → IsUtf8 after → 0 < length rest → length after < length rest
    → Gap ≡ (front (chars rest)).0 → chars after ≡ (front (chars rest)).1 → Left before text rest → Left before text after
left_behind_gap before text rest after t r a some shorter is left h =
    record {
      at_most = h.at_most - 1;
      fits = omega (arith, h.fits);
      within = omega (arith, h.within);
      all = ap (behind before) (sym (lexeme_read h.at_most text rest after Gap t r a some h.fits is left)) ∙ h.all;
    }

pub left_behind_token : (before : List Token) (text rest after : List ℕ) (kind : TokenKind) → IsUtf8 text → IsUtf8 rest → IsUtf8 after → 0 < length rest → length after < length rest
    → Spelled kind ≡ (front (chars rest)).0 → chars after ≡ (front (chars rest)).1 → Left before text rest
    → Left (before ++ record { kind = kind; span = record { from = length text - length rest; to = length text - length after } } ∷ []) text after
left_behind_token before text rest after kind t r a some shorter is left h =
    record {
      at_most = h.at_most - 1;
      fits = omega (arith, h.fits);
      within = omega (arith, h.within);
      all = sym (behind_add before _ _) ∙ (ap (behind before) (sym (lexeme_read h.at_most text rest after (Spelled kind) t r a some h.fits is left)) ∙ h.all);
    }

pub left_at_fault : (before : List Token) (text rest after : List ℕ) (fault : LexFault) → IsUtf8 text → IsUtf8 rest → IsUtf8 after → 0 < length rest
    → Wrong fault ≡ (front (chars rest)).0 → chars after ≡ (front (chars rest)).1 → Left before text rest
    → tokens text ≡ record { tokens = before; fault = Some (fault, length text - length rest) }
left_at_fault before text rest after fault t r a some is left h =
    sym h.all ∙ (ap (behind before) (lexeme_read h.at_most text rest after (Wrong fault) t r a some h.fits is left)
    ∙ ap (λ (ts : List Token). let l : Lexed = record { tokens = ts; fault = Some (fault, length text - length rest) } in l) (append-nil before))

pub left_at_end : (before : List Token) (text rest : List ℕ) → IsUtf8 rest → length rest ≡ 0 → Left before text rest → tokens text ≡ whole before
left_at_end before text rest r none h =
    sym h.all ∙ (ap (behind before) (all_read h.at_most text rest r none)
    ∙ ap (λ (ts : List Token). whole ts) (append-nil before))
