-- A comment that isn't closed stays so where the text goes on without closing it.
use Rattle.std.proofs.Common.{◌≡◌, ℕ, zero, suc, Bool, true, false, cond, inr, List, [], ◌∷◌, ◌++◌, length, drop, Option, Some, None, refl, sym, ap, subst, ◌∙◌, append_assoc, append-nil, arith}
use Rattle.std.proofs.Math.Utf8.{encode}
use Rattle.std.proofs.lemmas.Bool.{eqb-true}
use Rattle.std.proofs.lemmas.Str.{encodes-chars, encodes-append}
use Rattle.std.specs.Prelude.{codes, encode_utf8_all}
use Rattle.std.specs.Str.{chars, IsUtf8}
use Rattle.jsh_lex.specs.declared.lexeme.LexFault.TheVariants.{OpenComment}
use Rattle.jsh_lex.specs.declared.lexeme.Lexeme.{Lexeme}
use Rattle.jsh_lex.specs.declared.lexeme.Lexeme.TheVariants.{Gap, Spelled, Wrong}
use Rattle.jsh_lex.specs.Chars.{begins, width}
use Rattle.jsh_lex.specs.Lexis.{Front, Lexed, front, lexed, add_lexeme, place, tokens, behind_comment, closed_comment}
use Rattle.jsh_lex.proofs.Longest.{begins_split}
use Rattle.jsh_pieces.specs.Pieces.{moved_lexed, joined, ends_line}
use Rattle.jsh_pieces.proofs.LexisSteps.{IsRight, Taken, taken}
use Rattle.jsh_pieces.proofs.LexisBehind.{half_place}
use Rattle.jsh_pieces.proofs.LexisMarks.{ends_later}
use Rattle.jsh_pieces.proofs.LexisOpen.{front_opens, same_kind, same_place}
use Rattle.jsh_pieces.proofs.LexisResumes.{behind_place, place_same, ends_chars, resumes}

-- ---- where no */ stands

-- a line feed is no part of it, so none stands across the end of a line
unclosed_seam : (xs ys : List ℕ) → ends_line xs ≡ true → behind_comment xs ≡ None → behind_comment ys ≡ None → behind_comment (xs ++ ys) ≡ None
unclosed_seam [] ys ends h k = k
unclosed_seam (c ∷ []) ys ends h k = subst (λ (x : ℕ). behind_comment (x ∷ ys) ≡ None) (sym (eqb-true c 10 ends)) k
unclosed_seam (c ∷ d ∷ xs) ys ends h k =
    let go : (b : Bool) → cond b (Some xs) (behind_comment (d ∷ xs)) ≡ None → cond b (Some (xs ++ ys)) (behind_comment (d ∷ (xs ++ ys))) ≡ None
    = λ b. elim b as (λ v. cond v (Some xs) (behind_comment (d ∷ xs)) ≡ None → cond v (Some (xs ++ ys)) (behind_comment (d ∷ (xs ++ ys))) ≡ None) [
      | true ↦ λ e. cc
      | false ↦ λ e. unclosed_seam (d ∷ xs) ys ends e k
    ] in
    go (begins (codes "*/") (c ∷ d ∷ xs)) h

closing_split : (cs rest : List ℕ) → behind_comment cs ≡ Some rest → (s : List ℕ) × (cs ≡ s ++ 42 ∷ 47 ∷ rest)
closing_split [] rest e = cc
closing_split (c ∷ cs) rest e =
    let go : (b : Bool) → begins (codes "*/") (c ∷ cs) ≡ b → cond b (Some (drop 1 cs)) (behind_comment cs) ≡ Some rest → (s : List ℕ) × (c ∷ cs ≡ s ++ 42 ∷ 47 ∷ rest)
    = λ b. elim b as (λ v. begins (codes "*/") (c ∷ cs) ≡ v → cond v (Some (drop 1 cs)) (behind_comment cs) ≡ Some rest → (s : List ℕ) × (c ∷ cs ≡ s ++ 42 ∷ 47 ∷ rest)) [
      | true ↦ λ h k. let same : drop 1 cs ≡ rest = cc in ([], begins_split (codes "*/") (c ∷ cs) h ∙ ap (λ (xs : List ℕ). 42 ∷ 47 ∷ xs) same)
      | false ↦ λ h k. let later = closing_split cs rest k in (c ∷ later.0, ap (λ (xs : List ℕ). c ∷ xs) later.1)
    ] in
    go (begins (codes "*/") (c ∷ cs)) refl e

closing_found : (s rest : List ℕ) → behind_comment (s ++ 42 ∷ 47 ∷ rest) ≡ None → ⊥
closing_found [] rest e = cc
closing_found (c ∷ s) rest e =
    let cs = s ++ 42 ∷ 47 ∷ rest in
    let go : (b : Bool) → cond b (Some (drop 1 cs)) (behind_comment cs) ≡ None → ⊥
    = λ b. elim b as (λ v. cond v (Some (drop 1 cs)) (behind_comment cs) ≡ None → ⊥) [ true ↦ λ k. cc | false ↦ λ k. closing_found s rest k ] in
    go (begins (codes "*/") (c ∷ cs)) e

closing_bytes : (rest : List ℕ) → encode_utf8_all (42 ∷ 47 ∷ rest) ≡ 42 ∷ 47 ∷ encode_utf8_all rest
unfolding encode
closing_bytes rest = refl

-- it is ASCII, so the characters have it only where the bytes do
unclosed_chars : (bytes : List ℕ) → IsUtf8 bytes → behind_comment bytes ≡ None → behind_comment (chars bytes) ≡ None
unclosed_chars bytes u none =
    let go : (o : Option (List ℕ)) → behind_comment (chars bytes) ≡ o → o ≡ None
    = λ o. elim o as (λ v. behind_comment (chars bytes) ≡ v → v ≡ None) [
      | None ↦ λ e. refl
      | Some rest ↦ λ e.
          let split = closing_split (chars bytes) rest e in
          let there : bytes ≡ encode_utf8_all split.0 ++ 42 ∷ 47 ∷ encode_utf8_all rest =
          sym (encodes-chars bytes u)
          ∙ (ap encode_utf8_all split.1
          ∙ (encodes-append split.0 (42 ∷ 47 ∷ rest) ∙ ap (λ (xs : List ℕ). encode_utf8_all split.0 ++ xs) (closing_bytes rest))) in
          absurd (closing_found (encode_utf8_all split.0) (encode_utf8_all rest) (subst (λ (xs : List ℕ). behind_comment xs ≡ None) there none))
    ] in
    go (behind_comment (chars bytes)) refl

-- ---- where a comment isn't closed

front_comment : (cs : List ℕ) → front (47 ∷ 42 ∷ cs) ≡ closed_comment (behind_comment cs)
unfolding front
front_comment cs = refl

front_unclosed : (cs : List ℕ) → (front (47 ∷ 42 ∷ cs)).0 ≡ Wrong OpenComment → behind_comment cs ≡ None
front_unclosed cs e =
    let go : (o : Option (List ℕ)) → (closed_comment o).0 ≡ Wrong OpenComment → o ≡ None
    = λ o. elim o as (λ v. (closed_comment v).0 ≡ Wrong OpenComment → v ≡ None) [ None ↦ λ k. refl | Some rest ↦ λ k. cc ] in
    go (behind_comment cs) (ap (λ (x : Front). x.0) (sym (front_comment cs)) ∙ e)

lexed_unclosed : (n : ℕ) (text cs : List ℕ) → behind_comment cs ≡ None
    → lexed (suc n) text (47 ∷ 42 ∷ cs) ≡ record { tokens = []; fault = Some (OpenComment, place text (47 ∷ 42 ∷ cs)) }
lexed_unclosed n text cs e =
    ap (λ (x : Front). add_lexeme x.0 (place text (47 ∷ 42 ∷ cs)) (place text x.1) (lexed n text x.1)) (front_comment cs ∙ ap closed_comment e)

-- a comment opens at the place, and the text doesn't close it
record Unclosed (text : List ℕ) (p : ℕ) : Type 0 where
  before : List ℕ
  inside : List ℕ
  parts : text ≡ before ++ 47 ∷ 42 ∷ inside
  there : place text (47 ∷ 42 ∷ inside) ≡ p
  none : behind_comment inside ≡ None

unclosed_here : (text xs : List ℕ) (c : ℕ) (cs : List ℕ) → text ≡ xs ++ c ∷ cs → (front (c ∷ cs)).0 ≡ Wrong OpenComment → Unclosed text (place text (c ∷ cs))
unclosed_here text xs c cs parts e =
    let split : c ∷ cs ≡ 47 ∷ 42 ∷ drop 1 cs = begins_split (codes "/*") (c ∷ cs) ((front_opens c cs).holds e) in
    record {
      before = xs;
      inside = drop 1 cs;
      parts = parts ∙ ap (λ (ys : List ℕ). xs ++ ys) split;
      there = ap (place text) (sym split);
      none = front_unclosed (drop 1 cs) (subst (λ (ys : List ℕ). (front ys).0 ≡ Wrong OpenComment) split e);
    }

unclosed_at : (n p : ℕ) (text xs cs : List ℕ) → text ≡ xs ++ cs → (lexed n text cs).fault ≡ Some (OpenComment, p) → Unclosed text p
unclosed_at zero p text xs [] parts e = cc
unclosed_at zero p text xs (c ∷ cs) parts e = cc
unclosed_at (suc n) p text xs [] parts e = cc
unclosed_at (suc n) p text xs (c ∷ cs) parts e =
    let rest = (front (c ∷ cs)).1 in
    let from = place text (c ∷ cs) in
    let to = place text rest in
    let more = lexed n text rest in
    let later : Taken (c ∷ cs) (front (c ∷ cs)) → more.fault ≡ Some (OpenComment, p) → Unclosed text p
    = λ k f. unclosed_at n p text (xs ++ k.s) rest (parts ∙ (ap (λ (ys : List ℕ). xs ++ ys) k.parts ∙ sym (append_assoc xs k.s rest))) f in
    let go : (l : Lexeme) → (front (c ∷ cs)).0 ≡ l → (IsRight l → Taken (c ∷ cs) (front (c ∷ cs))) → (add_lexeme l from to more).fault ≡ Some (OpenComment, p) → Unclosed text p
    = λ l. elim l as (λ v. (front (c ∷ cs)).0 ≡ v → (IsRight v → Taken (c ∷ cs) (front (c ∷ cs))) → (add_lexeme v from to more).fault ≡ Some (OpenComment, p) → Unclosed text p) [
      | Gap ↦ λ is takes f. later (takes tt) f
      | Spelled kind ↦ λ is takes f. later (takes tt) f
      | Wrong fault ↦ λ is takes f.
          subst (Unclosed text) (same_place (fault, from) (OpenComment, p) f)
          (unclosed_here text xs c cs parts (is ∙ ap Wrong (same_kind (fault, from) (OpenComment, p) f)))
    ] in
    go (front (c ∷ cs)).0 refl (taken c cs) e

-- ---- the longer text

rest_unclosed : (text more : List ℕ) (p : ℕ) → IsUtf8 text → IsUtf8 more → ends_line text ≡ true → behind_comment more ≡ None → Unclosed (chars text) p
    → moved_lexed p (tokens (drop p text ++ more)) ≡ record { tokens = []; fault = Some (OpenComment, p) }
rest_unclosed text more p u v ends none at =
    let opened = 47 ∷ 42 ∷ at.inside in
    let inside = at.inside ++ chars more in
    let size : width at.before ≡ p = sym (half_place text at.before opened (record { utf8 = u; parts = at.parts })) ∙ at.there in
    let line = ends_later (47 ∷ 42 ∷ []) at.inside (ends_later at.before opened (ap ends_line (sym at.parts) ∙ ends_chars text u ends)) in
    ap (λ w. moved_lexed w (tokens (drop w text ++ more))) (sym size)
    ∙ (sym (behind_place text more at.before opened (length (opened ++ chars more)) u v at.parts (omega arith))
    ∙ (lexed_unclosed (length (42 ∷ inside)) (chars text ++ chars more) inside (unclosed_seam at.inside (chars more) line at.none (unclosed_chars more v none))
    ∙ ap (λ k. record { tokens = []; fault = Some (OpenComment, k) }) (place_same (chars text) opened (chars more) ∙ at.there)))

joined_fault : (before last : Lexed) (p : ℕ) → before.fault ≡ Some (OpenComment, p) → last ≡ record { tokens = []; fault = Some (OpenComment, p) }
    → joined before.tokens last ≡ before
joined_fault before last p fault e =
    ap (joined before.tokens) e
    ∙ (ap (λ ts. record { tokens = ts; fault = Some (OpenComment, p) }) (append-nil before.tokens)
    ∙ ap (λ f. record { tokens = before.tokens; fault = f }) (sym fault))

pub stays_open : (text more : List ℕ) (p : ℕ) → IsUtf8 text → IsUtf8 more → (tokens text).fault ≡ Some (OpenComment, p)
    → ends_line text ≡ true → behind_comment more ≡ None → tokens (text ++ more) ≡ tokens text
unfolding tokens
stays_open text more p u v fault ends none =
    let at = unclosed_at (length text) p (chars text) [] (chars text) refl fault in
    resumes text more p u v (inr fault)
    ∙ joined_fault (tokens text) (moved_lexed p (tokens (drop p text ++ more))) p fault (rest_unclosed text more p u v ends none at)
