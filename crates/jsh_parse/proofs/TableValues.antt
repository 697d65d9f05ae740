-- The tokens of a text that are literals have values.
use Rattle.std.proofs.Common.{◌≡◌, ℕ, ◌==◌, ◌&&◌, inl, inr, Bool, true, false, not, cond, List, [], ◌∷◌, ◌++◌, Option, Some, None, refl, sym, ap, subst, ◌∙◌, arith}
use Rattle.std.proofs.lemmas.Bool.{eq-eqb, and_parts, and_from, not-true}
use Rattle.std.proofs.lemmas.List.{append_cancel_right}
use Rattle.std.proofs.lemmas.Str.{encodes-chars, IsUtf8-between}
use Rattle.std.specs.Prelude.{slice_range, encode_utf8_all, nat_eq, option_map, if◌then◌else◌}
use Rattle.std.specs.Int.{cast_signed, w32, w64}
use Rattle.std.specs.Cmp.Lexicographic.{pointwise}
use Rattle.std.specs.List.{list_all}
use Rattle.std.specs.Str.{chars, IsUtf8}
use Rattle.jsh_tree.specs.declared.token.Token.{Token}
use Rattle.jsh_tree.specs.declared.token.TokenKind.{TokenKind}
use Rattle.jsh_tree.specs.declared.token.TokenKind.TheVariants as token
use Rattle.jsh_tree.specs.declared.expression.Literal.{Literal}
use Rattle.jsh_tree.specs.declared.expression.Literal.TheVariants as literal
use Rattle.jsh_lex.specs.declared.lexeme.LexFault.TheVariants.{BadEscape, BadCharLiteral, BadNumber, NumberTooBig}
use Rattle.jsh_lex.specs.declared.lexeme.Lexeme.TheVariants.{Spelled, Wrong}
use Rattle.jsh_lex.specs.Chars.{is_line_end}
use Rattle.jsh_lex.specs.Literal.{behind_quote, content, escapes_next, escapes_hold, is_unit, unit_of, string, character}
use Rattle.jsh_lex.specs.Number.{is_long, is_integer, is_in_range, integer, value_of}
use Rattle.jsh_lex.specs.Spelling.{Spells, a_word, a_number, a_string, a_character, an_operator, is_content, Lists, IsTokenBehind, AreTokensBehind}
use Rattle.jsh_lex.specs.Table.{operators, reserved_words, kind_in, word_kind}
use Rattle.jsh_lex.specs.Value.{is_int, is_long_int, needs_minus, between, if_at_end, unit_between, units_between, units_behind}
use Rattle.jsh_lex.proofs.Texts.{quote_split}
use Rattle.jsh_grammar.specs.Classes.{is_literal}
use Rattle.jsh_parse.specs.Leaves.{value_of_kind, literal_of}
use Rattle.jsh_parse.specs.Reading.{AreTaken, spelled, ended, semicolon_at_end}
use Rattle.jsh_parse.proofs.TableSymbols.{AllKnown}

-- if it is of a literal's kind, it has a value
abbrev pub HasValue : List ℕ → Token → Type 0
HasValue text t = is_literal t.kind ≡ true → (value : Literal) × (literal_of text t ≡ Some value)

-- ---- words and operators

-- whether it takes more than its kind to tell the value
abbrev is_worded : TokenKind → Bool
is_worded token.IntLiteral = false
is_worded token.LongLiteral = false
is_worded token.CharLiteral = false
is_worded token.StringLiteral = false
is_worded _ = true

-- a value, by the kind and the bytes
abbrev HasValueOf : TokenKind → List ℕ → Type 0
HasValueOf kind bytes = (value : Literal) × (value_of_kind kind bytes ≡ Some value)

worded_value : (kind : TokenKind) (bytes : List ℕ) → is_worded kind ≡ true → is_literal kind ≡ true → HasValueOf kind bytes
worded_value token.IntLiteral bytes w h = cc
worded_value token.LongLiteral bytes w h = cc
worded_value token.CharLiteral bytes w h = cc
worded_value token.StringLiteral bytes w h = cc
worded_value token.True bytes w h = (literal.Boolean true, refl)
worded_value token.False bytes w h = (literal.Boolean false, refl)
worded_value token.Null bytes w h = (literal.Null, refl)
worded_value _ bytes w h = cc

reserved_worded : list_all (λ entry. is_worded entry.1) reserved_words ≡ true
reserved_worded = refl

operators_worded : list_all (λ entry. is_worded entry.1) operators ≡ true
operators_worded = refl

kind_worded : (entries : List (List ℕ × TokenKind)) → list_all (λ entry. is_worded entry.1) entries ≡ true → (word : List ℕ) →
    is_worded (kind_in entries word) ≡ true
kind_worded [] h word = refl
kind_worded (entry ∷ entries) h word =
    let both = and_parts (is_worded entry.1) (list_all (λ entry. is_worded entry.1) entries) h in
    elim (pointwise nat_eq entry.0 word) as (λ b. is_worded (cond b entry.1 (kind_in entries word)) ≡ true) [
      | true ↦ both.0
      | false ↦ kind_worded entries both.1 word
    ]

word_worded : (word : List ℕ) → is_worded (word_kind word) ≡ true
unfolding word_kind
word_worded word = kind_worded reserved_words reserved_worded word

listed_worded : (entries : List (List ℕ × TokenKind)) → list_all (λ entry. is_worded entry.1) entries ≡ true → (s : List ℕ) (kind : TokenKind) →
    Lists entries s kind →
    is_worded kind ≡ true
listed_worded [] h s kind l = absurd l
listed_worded (entry ∷ entries) h s kind (inl l) =
    subst (λ (k : TokenKind). is_worded k ≡ true) l.1 (and_parts (is_worded entry.1) (list_all (λ entry. is_worded entry.1) entries) h).0
listed_worded (entry ∷ entries) h s kind (inr l) =
    listed_worded entries (and_parts (is_worded entry.1) (list_all (λ entry. is_worded entry.1) entries) h).1 s kind l

-- ---- numbers

chosen : {A : Type 0} (b : Bool) (x : A) (f : A → Literal) → b ≡ true → (value : Literal) × (option_map f (if b then Some x else None) ≡ Some value)
chosen true x f h = (f x, refl)
chosen false x f h = cc

spelled_number : (form range long : Bool) (kind : TokenKind) →
    (if form then (if range then Spelled (if long then token.LongLiteral else token.IntLiteral) else Wrong NumberTooBig) else Wrong BadNumber) ≡ Spelled kind →
    (form ≡ true) × (range ≡ true) × ((if long then token.LongLiteral else token.IntLiteral) ≡ kind)
spelled_number true true long kind e = (refl, refl, cc)
spelled_number true false long kind e = cc
spelled_number false range long kind e = cc

number_value : (kind : TokenKind) (bytes : List ℕ) → integer bytes ≡ Spelled kind → HasValueOf kind bytes
unfolding integer
number_value kind bytes e = subst (λ (k : TokenKind). HasValueOf k bytes) facts.2 (at (is_long bytes) refl)
  where
    facts : (is_integer bytes ≡ true) × (is_in_range bytes ≡ true) × ((if is_long bytes then token.LongLiteral else token.IntLiteral) ≡ kind)
    facts = spelled_number (is_integer bytes) (is_in_range bytes) (is_long bytes) kind e

    at : (long : Bool) → is_long bytes ≡ long → HasValueOf (if long then token.LongLiteral else token.IntLiteral) bytes
    at true h =
        chosen (is_long_int bytes) (cast_signed w64 (value_of bytes)) (λ v. literal.Long v (needs_minus bytes))
        (and_from (is_integer bytes && is_in_range bytes) (is_long bytes) (and_from (is_integer bytes) (is_in_range bytes) facts.0 facts.1) h)
    at false h =
        chosen (is_int bytes) (cast_signed w32 (value_of bytes)) (λ v. literal.Int v (needs_minus bytes))
        (and_from (is_integer bytes && is_in_range bytes) (not (is_long bytes)) (and_from (is_integer bytes) (is_in_range bytes) facts.0 facts.1) (ap not h))

-- ---- characters and strings

-- a quote behind a content closes it
closes_there : (q : ℕ) (escaped : Bool) (inside : List ℕ) → is_line_end q ≡ false → is_content q escaped inside ≡ true →
    behind_quote q escaped (inside ++ q ∷ []) ≡ Some []
closes_there q escaped [] l h =
    ap (λ b. cond b None (cond (not escaped && (q == q)) (Some []) (behind_quote q (escapes_next escaped q) []))) l
    ∙ ap (λ b. cond b (Some []) (behind_quote q (escapes_next escaped q) [])) (and_from (not escaped) (q == q) h (eq-eqb q q refl))
closes_there q escaped (c ∷ inside) l h =
    let more = is_content q (escapes_next escaped c) inside in
    let both = and_parts (not (is_line_end c) && not (not escaped && (c == q))) more h in
    let here = and_parts (not (is_line_end c)) (not (not escaped && (c == q))) both.0 in
    ap (λ b. cond b None (cond (not escaped && (c == q)) (Some (inside ++ q ∷ [])) (behind_quote q (escapes_next escaped c) (inside ++ q ∷ []))))
    (not-true (is_line_end c) here.0)
    ∙ (ap (λ b. cond b (Some (inside ++ q ∷ [])) (behind_quote q (escapes_next escaped c) (inside ++ q ∷ []))) (not-true (not escaped && (c == q)) here.1)
    ∙ closes_there q (escapes_next escaped c) inside l both.1)

between_quotes : (q : ℕ) (inside : List ℕ) → is_line_end q ≡ false → is_content q false inside ≡ true → between q (q ∷ (inside ++ q ∷ [])) ≡ Some inside
between_quotes q inside l h =
    let closes = closes_there q false inside l h in
    let same : inside ≡ content q false (inside ++ q ∷ []) =
    append_cancel_right inside (content q false (inside ++ q ∷ [])) (q ∷ []) (quote_split q false (inside ++ q ∷ []) [] closes) in
    ap (λ b. if b then if_at_end (behind_quote q false (inside ++ q ∷ [])) (content q false (inside ++ q ∷ [])) else None) (eq-eqb q q refl)
    ∙ (ap (λ o. if_at_end o (content q false (inside ++ q ∷ []))) closes ∙ ap Some (sym same))

spelled_string : (escapes : Bool) (kind : TokenKind) → (if escapes then Spelled token.StringLiteral else Wrong BadEscape) ≡ Spelled kind →
    (escapes ≡ true) × (token.StringLiteral ≡ kind)
spelled_string true kind e = (refl, cc)
spelled_string false kind e = cc

string_has_value : (kind : TokenKind) (bytes inside : List ℕ) → chars bytes ≡ 34 ∷ (inside ++ 34 ∷ []) → is_content 34 false inside ≡ true →
    string inside ≡ Spelled kind →
    HasValueOf kind bytes
string_has_value kind bytes inside same is e =
    let facts = spelled_string (escapes_hold false inside) kind e in
    let found : between 34 (chars bytes) ≡ Some inside = ap (between 34) same ∙ between_quotes 34 inside refl is in
    subst (λ (k : TokenKind). HasValueOf k bytes) facts.1
    (subst (λ (o : Option (List ℕ)). (value : Literal) × (option_map (λ us. literal.Text us) (units_between o) ≡ Some value)) (sym found)
    (chosen (escapes_hold false inside) (units_behind 0 inside) (λ us. literal.Text us) facts.0))

spelled_character : (escapes unit : Bool) (kind : TokenKind) →
    (if escapes then (if unit then Spelled token.CharLiteral else Wrong BadCharLiteral) else Wrong BadEscape) ≡ Spelled kind →
    (unit ≡ true) × (token.CharLiteral ≡ kind)
spelled_character true true kind e = (refl, cc)
spelled_character true false kind e = cc
spelled_character false unit kind e = cc

unit_value : (o : Option ℕ) → is_unit o ≡ true → (value : Literal) × (option_map (λ u. literal.Char u) o ≡ Some value)
unit_value None h = cc
unit_value (Some u) h = (literal.Char u, refl)

character_has_value : (kind : TokenKind) (bytes inside : List ℕ) → chars bytes ≡ 39 ∷ (inside ++ 39 ∷ []) → is_content 39 false inside ≡ true →
    character inside ≡ Spelled kind → HasValueOf kind bytes
character_has_value kind bytes inside same is e =
    let facts = spelled_character (escapes_hold false inside) (is_unit (unit_of inside)) kind e in
    let found : between 39 (chars bytes) ≡ Some inside = ap (between 39) same ∙ between_quotes 39 inside refl is in
    subst (λ (k : TokenKind). HasValueOf k bytes) facts.1
    (subst (λ (o : Option (List ℕ)). (value : Literal) × (option_map (λ u. literal.Char u) (unit_between o) ≡ Some value)) (sym found)
    (unit_value (unit_of inside) facts.0))

-- ---- the tokens of a text

-- a spelling of a literal's kind has a value
pub spelling_has_value : (kind : TokenKind) (bytes : List ℕ) → IsUtf8 bytes → Spells kind (chars bytes) → is_literal kind ≡ true → HasValueOf kind bytes
spelling_has_value kind bytes utf8 (a_word is e) h =
    worded_value kind bytes (subst (λ (k : TokenKind). is_worded k ≡ true) e (word_worded (encode_utf8_all (chars bytes)))) h
spelling_has_value kind bytes utf8 (a_number is e) h = number_value kind bytes (ap integer (sym (encodes-chars bytes utf8)) ∙ e)
spelling_has_value kind bytes utf8 (a_string inside same is e) h = string_has_value kind bytes inside same is e
spelling_has_value kind bytes utf8 (a_character inside same is e) h = character_has_value kind bytes inside same is e
spelling_has_value kind bytes utf8 (an_operator l) h = worded_value kind bytes (listed_worded operators operators_worded (chars bytes) kind l) h

token_has_value : (text : List ℕ) (end : ℕ) (t : Token) → IsUtf8 text → IsTokenBehind text end t → HasValue text t
token_has_value text end t utf8 is h =
    let some = is.nonempty in
    let within : IsUtf8 (slice_range text t.span.from t.span.to) =
    IsUtf8-between text t.span.from t.span.to utf8 (omega arith) is.starts_between is.ends_between in
    spelling_has_value t.kind (slice_range text t.span.from t.span.to) within is.spelled h

values_behind : (text : List ℕ) (end : ℕ) (ts : List Token) → IsUtf8 text → AreTokensBehind text end ts → AllKnown (HasValue text) ts
values_behind text end [] utf8 are = tt
values_behind text end (t ∷ ts) utf8 are = (token_has_value text end t utf8 are.0, values_behind text t.span.to ts utf8 are.1)

known_last : (Known : Token → Type 0) (ts : List Token) (t : Token) → AllKnown Known ts → Known t → AllKnown Known (ts ++ t ∷ [])
known_last Known [] t known last = (last, tt)
known_last Known (u ∷ ts) t known last = (known.0, known_last Known ts t known.1 last)

-- each token that a parser takes has a value, where it is of a literal's kind
pub values_taken : (text : List ℕ) (ts : List Token) → IsUtf8 text → AreTaken text ts → AllKnown (HasValue text) ts
values_taken text ts utf8 (spelled us are) = values_behind text 0 us utf8 are
values_taken text ts utf8 (ended us are) = known_last (HasValue text) us (semicolon_at_end text) (values_behind text 0 us utf8 are) (λ h. cc)
