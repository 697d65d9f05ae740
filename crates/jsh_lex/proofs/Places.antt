-- Where the tokens of a text stand.
use Rattle.std.proofs.Common.{◌≡◌, ℕ, zero, suc, ◌+◌, ◌-◌, ◌<◌, ◌≤◌, ◌&&◌, true, List, [], ◌∷◌, ◌++◌, length, take, drop, refl, sym, ap, subst, ◌∙◌, append_assoc, length-append, length-drop, arith}
use Rattle.std.proofs.Math.Seq.{take-add, take-append_seam, drop-append_seam}
use Rattle.std.proofs.Math.Utf8.{scalars, scalar}
use Rattle.std.proofs.lemmas.Bool.{and_parts}
use Rattle.std.proofs.lemmas.List.{drop-drop, length-take}
use Rattle.std.proofs.lemmas.List.Elements.{All-nil, All-cons}
use Rattle.std.proofs.lemmas.List.Folds.{drop_split}
use Rattle.std.proofs.lemmas.Str.{encodes-chars, encodes-append, chars-append, chars-encodes, scalars-chars, length-le-encodes, IsCharBoundary-at_seam, IsUtf8-between}
use Rattle.std.specs.List.{All}
use Rattle.std.specs.Prelude.{encode_utf8_all, slice_range}
use Rattle.std.specs.Str.{chars, IsUtf8, IsCharBoundary}
use Rattle.jsh_tree.specs.declared.token.TokenKind.{TokenKind}
use Rattle.jsh_lex.specs.declared.lexeme.Lexeme.{Lexeme}
use Rattle.jsh_lex.specs.declared.lexeme.Lexeme.TheVariants.{Gap, Spelled, Wrong}
use Rattle.jsh_lex.specs.Chars.{width}
use Rattle.jsh_lex.specs.Lexis.{front, lexed, add_lexeme, place, tokens}
use Rattle.jsh_lex.specs.Spelling.{Spells, IsTokenBehind, AreTokensBehind, IsLongest}
use Rattle.jsh_lex.proofs.Explained.{ExplainsAs, explained}
use Rattle.jsh_lex.proofs.Lexemes.{some_chars}
use Rattle.jsh_lex.proofs.Longest.{NoLonger}

right_scalars : (xs ys : List ℕ) → scalars (xs ++ ys) ≡ true → scalars ys ≡ true
right_scalars [] ys h = h
right_scalars (x ∷ xs) ys h = right_scalars xs ys (and_parts (scalar x) (scalars (xs ++ ys)) h).1

left_scalars : (xs ys : List ℕ) → scalars (xs ++ ys) ≡ true → scalars xs ≡ true
left_scalars [] ys h = refl
left_scalars (x ∷ xs) ys h =
    let both = and_parts (scalar x) (scalars (xs ++ ys)) h in
    ap (λ b. b && scalars xs) both.0 ∙ left_scalars xs ys both.1

width-append : (xs ys : List ℕ) → width (xs ++ ys) ≡ width xs + width ys
width-append xs ys = ap length (encodes-append xs ys) ∙ length-append (encode_utf8_all xs) (encode_utf8_all ys)

-- the characters of a text, cut in two
pub record Cut (bytes front rest : List ℕ) : Type 0 where
  pub parts : chars bytes ≡ front ++ rest
  pub utf8 : IsUtf8 bytes

whole_bytes : (bytes xs ys : List ℕ) → Cut bytes xs ys → bytes ≡ encode_utf8_all xs ++ encode_utf8_all ys
whole_bytes bytes xs ys c = sym (encodes-chars bytes c.utf8) ∙ (ap encode_utf8_all c.parts ∙ encodes-append xs ys)

sum_of_widths : (bytes xs ys : List ℕ) → Cut bytes xs ys → width (chars bytes) ≡ width xs + width ys
sum_of_widths bytes xs ys c = ap width c.parts ∙ width-append xs ys

boundary_at : (bytes xs ys : List ℕ) → Cut bytes xs ys → IsCharBoundary bytes (width xs)
boundary_at bytes xs ys c =
    IsCharBoundary-at_seam bytes (encode_utf8_all xs) (encode_utf8_all ys) (whole_bytes bytes xs ys c)
    (ys, (right_scalars xs ys (ap scalars (sym c.parts) ∙ scalars-chars bytes c.utf8), refl))

cut_later : (bytes xs cs s rest : List ℕ) → cs ≡ s ++ rest → Cut bytes xs cs → Cut bytes (xs ++ s) rest
cut_later bytes xs cs s rest e c =
    record { parts = c.parts ∙ (ap (λ (ys : List ℕ). xs ++ ys) e ∙ sym (append_assoc xs s rest)); utf8 = c.utf8 }

-- the characters between two cuts
between : (bytes xs s rest : List ℕ) → Cut bytes xs (s ++ rest) → chars (slice_range bytes (width xs) (width xs + width s)) ≡ s
between bytes xs s rest c =
    let left = encode_utf8_all xs in
    let mid = encode_utf8_all s in
    let right = encode_utf8_all rest in
    let whole : bytes ≡ left ++ (mid ++ right) = whole_bytes bytes xs (s ++ rest) c ∙ ap (λ (ys : List ℕ). left ++ ys) (encodes-append s rest) in
    let n : (length left + length mid) - length left ≡ length mid = omega arith in
    let dropped : drop (length left) bytes ≡ mid ++ right = ap (drop (length left)) whole ∙ drop-append_seam left (mid ++ right) in
    let taken : take ((length left + length mid) - length left) (drop (length left) bytes) ≡ mid =
    ap (λ k. take k (drop (length left) bytes)) n ∙ (ap (take (length mid)) dropped ∙ take-append_seam mid right) in
    ap chars taken ∙ chars-encodes s (left_scalars s rest (right_scalars xs (s ++ rest) (ap scalars (sym c.parts) ∙ scalars-chars bytes c.utf8)))

token_stands : (bytes xs cs s rest : List ℕ) (kind : TokenKind) (end : ℕ) → cs ≡ s ++ rest → Spells kind s → 0 < length s → Cut bytes xs cs → end ≤ width xs
    → IsTokenBehind bytes end (record { kind = kind; span = record { from = place (chars bytes) cs; to = place (chars bytes) rest } })
token_stands bytes xs cs s rest kind end e spells some c behind =
    let c' : Cut bytes xs (s ++ rest) = record { parts = c.parts ∙ ap (λ (ys : List ℕ). xs ++ ys) e; utf8 = c.utf8 } in
    let later = cut_later bytes xs cs s rest e c in
    let from : place (chars bytes) cs ≡ width xs = omega (arith, sum_of_widths bytes xs cs c) in
    let to : place (chars bytes) rest ≡ width xs + width s = omega (arith, sum_of_widths bytes (xs ++ s) rest later, width-append xs s) in
    let total : length bytes ≡ width (chars bytes) = ap length (sym (encodes-chars bytes c.utf8)) in
    record {
      behind = omega (arith, from);
      nonempty = omega (arith, from, to, length-le-encodes s);
      within = omega (arith, total);
      starts_between = subst (λ (n : ℕ). IsCharBoundary bytes n) (sym from) (boundary_at bytes xs cs c);
      ends_between = subst (λ (n : ℕ). IsCharBoundary bytes n) (width-append xs s ∙ sym to) (boundary_at bytes (xs ++ s) rest later);
      spelled = subst (λ (ys : List ℕ). Spells kind ys)
          (sym (ap (λ n. chars (slice_range bytes n (place (chars bytes) rest))) from ∙ (ap (λ n. chars (slice_range bytes (width xs) n)) to ∙ between bytes xs s rest c'))) spells;
    }

-- a part of a list in two
part_split : (bytes : List ℕ) (from mid end : ℕ) → from ≤ mid → mid ≤ end → slice_range bytes from end ≡ slice_range bytes from mid ++ slice_range bytes mid end
part_split bytes from mid end a b =
    let n : end - from ≡ (mid - from) + (end - mid) = omega arith in
    let at : from + (mid - from) ≡ mid = omega arith in
    ap (λ k. take k (drop from bytes)) n ∙ (take-add (mid - from) (end - mid) (drop from bytes)
    ∙ ap (λ (ys : List ℕ). take (mid - from) (drop from bytes) ++ take (end - mid) ys) (drop-drop (mid - from) from bytes ∙ ap (λ k. drop k bytes) at))

token_longest : (bytes xs cs s rest : List ℕ) (kind : TokenKind) → cs ≡ s ++ rest → NoLonger s rest → Cut bytes xs cs
    → IsLongest bytes (record { kind = kind; span = record { from = place (chars bytes) cs; to = place (chars bytes) rest } })
token_longest bytes xs cs s rest kind e longest c other end longer boundary spells =
    let c' : Cut bytes xs (s ++ rest) = record { parts = c.parts ∙ ap (λ (ys : List ℕ). xs ++ ys) e; utf8 = c.utf8 } in
    let later = cut_later bytes xs cs s rest e c in
    let from : place (chars bytes) cs ≡ width xs = omega (arith, sum_of_widths bytes xs cs c) in
    let to : place (chars bytes) rest ≡ width xs + width s = omega (arith, sum_of_widths bytes (xs ++ s) rest later, width-append xs s) in
    let mid : ℕ = width xs + width s in
    let after : mid < end = omega (arith, to) in
    let at_from : IsCharBoundary bytes (width xs) = boundary_at bytes xs cs c in
    let at_mid : IsCharBoundary bytes mid = subst (λ (n : ℕ). IsCharBoundary bytes n) (width-append xs s) (boundary_at bytes (xs ++ s) rest later) in
    let u1 : IsUtf8 (slice_range bytes (width xs) mid) = IsUtf8-between bytes (width xs) mid c.utf8 (omega arith) at_from at_mid in
    let u2 : IsUtf8 (slice_range bytes mid end) = IsUtf8-between bytes mid end c.utf8 (omega arith) at_mid boundary in
    let more = chars (slice_range bytes mid end) in
    let tail = chars (drop end bytes) in
    let joined : chars (slice_range bytes (place (chars bytes) cs) end) ≡ s ++ more =
    ap (λ n. chars (slice_range bytes n end)) from ∙ (ap chars (part_split bytes (width xs) mid end (omega arith) (omega arith))
    ∙ (chars-append (slice_range bytes (width xs) mid) (slice_range bytes mid end) u1 ∙ ap (λ (ys : List ℕ). ys ++ more) (between bytes xs s rest c'))) in
    let behind : drop mid bytes ≡ encode_utf8_all rest =
    ap (λ n. drop n bytes) (sym (width-append xs s)) ∙ (ap (drop (width (xs ++ s))) (whole_bytes bytes (xs ++ s) rest later) ∙ drop-append_seam (encode_utf8_all (xs ++ s)) (encode_utf8_all rest)) in
    let rest_chars : chars (drop mid bytes) ≡ rest =
    ap chars behind ∙ chars-encodes rest (right_scalars (xs ++ s) rest (ap scalars (sym later.parts) ∙ scalars-chars bytes c.utf8)) in
    let parts : rest ≡ more ++ tail =
    sym rest_chars ∙ (ap chars (drop_split bytes mid end (omega arith)) ∙ chars-append (slice_range bytes mid end) (drop end bytes) u2) in
    let size : 0 < length (slice_range bytes mid end) = omega (arith, boundary.0, length-take (end - mid) (drop mid bytes), length-drop mid bytes) in
    longest other more tail parts (some_chars more (slice_range bytes mid end) (encodes-chars (slice_range bytes mid end) u2) size) (subst (λ (ys : List ℕ). Spells other ys) joined spells)

-- the tokens of a rest, behind a place in front of it
rest_stands : (n : ℕ) (bytes xs cs : List ℕ) (end : ℕ) → Cut bytes xs cs → end ≤ width xs → AreTokensBehind bytes end (lexed n (chars bytes) cs).tokens
rest_stands zero bytes xs [] end c h = tt
rest_stands zero bytes xs (d ∷ cs) end c h = tt
rest_stands (suc n) bytes xs [] end c h = tt
rest_stands (suc n) bytes xs (d ∷ cs) end c h =
    let go : (l : Lexeme) (rest : List ℕ) → ExplainsAs l (d ∷ cs) rest
    → AreTokensBehind bytes end (add_lexeme l (place (chars bytes) (d ∷ cs)) (place (chars bytes) rest) (lexed n (chars bytes) rest)).tokens
    = λ l. elim l as (λ v. (rest : List ℕ) → ExplainsAs v (d ∷ cs) rest
    → AreTokensBehind bytes end (add_lexeme v (place (chars bytes) (d ∷ cs)) (place (chars bytes) rest) (lexed n (chars bytes) rest)).tokens) [
      | Gap ↦ λ rest x. rest_stands n bytes (xs ++ x.0) rest end (cut_later bytes xs (d ∷ cs) x.0 rest x.1 c) (omega (arith, width-append xs x.0))
      | Spelled kind ↦ λ rest x.
          let later = cut_later bytes xs (d ∷ cs) x.s rest x.parts c in (
            token_stands bytes xs (d ∷ cs) x.s rest kind end x.parts x.spells x.some c h,
            rest_stands n bytes (xs ++ x.s) rest (place (chars bytes) rest) later (omega (arith, sum_of_widths bytes (xs ++ x.s) rest later)),
          )
      | Wrong fault ↦ λ rest x. tt
    ] in
    go (front (d ∷ cs)).0 (front (d ∷ cs)).1 (explained (d ∷ cs)).holds

pub tokens_stand : (bytes : List ℕ) → IsUtf8 bytes → AreTokensBehind bytes 0 (tokens bytes).tokens
unfolding tokens
tokens_stand bytes u = rest_stands (length bytes) bytes [] (chars bytes) 0 (record { parts = refl; utf8 = u }) (omega arith)

rest_longest : (n : ℕ) (bytes xs cs : List ℕ) → Cut bytes xs cs → All (IsLongest bytes) (lexed n (chars bytes) cs).tokens
rest_longest zero bytes xs [] c = All-nil (IsLongest bytes)
rest_longest zero bytes xs (d ∷ cs) c = All-nil (IsLongest bytes)
rest_longest (suc n) bytes xs [] c = All-nil (IsLongest bytes)
rest_longest (suc n) bytes xs (d ∷ cs) c =
    let go : (l : Lexeme) (rest : List ℕ) → ExplainsAs l (d ∷ cs) rest
    → All (IsLongest bytes) (add_lexeme l (place (chars bytes) (d ∷ cs)) (place (chars bytes) rest) (lexed n (chars bytes) rest)).tokens
    = λ l. elim l as (λ v. (rest : List ℕ) → ExplainsAs v (d ∷ cs) rest
    → All (IsLongest bytes) (add_lexeme v (place (chars bytes) (d ∷ cs)) (place (chars bytes) rest) (lexed n (chars bytes) rest)).tokens) [
      | Gap ↦ λ rest x. rest_longest n bytes (xs ++ x.0) rest (cut_later bytes xs (d ∷ cs) x.0 rest x.1 c)
      | Spelled kind ↦ λ rest x.
          All-cons (IsLongest bytes) _ (lexed n (chars bytes) rest).tokens
          (token_longest bytes xs (d ∷ cs) x.s rest kind x.parts x.longest c)
          (rest_longest n bytes (xs ++ x.s) rest (cut_later bytes xs (d ∷ cs) x.s rest x.parts c))
      | Wrong fault ↦ λ rest x. All-nil (IsLongest bytes)
    ] in
    go (front (d ∷ cs)).0 (front (d ∷ cs)).1 (explained (d ∷ cs)).holds

pub tokens_longest : (bytes : List ℕ) → IsUtf8 bytes → All (IsLongest bytes) (tokens bytes).tokens
unfolding tokens
tokens_longest bytes u = rest_longest (length bytes) bytes [] (chars bytes) (record { parts = refl; utf8 = u })
