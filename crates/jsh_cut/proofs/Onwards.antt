-- How the tokens of a text that goes on are those of the text so far, and others behind them.
use Rattle.std.proofs.Common.{◌≡◌, ℕ, zero, suc, ◌+◌, ◌-◌, ◌<◌, ◌^◌, Bool, true, false, List, [], ◌∷◌, ◌++◌, length, drop, get_or, map, Option, None, Some, refl, sym, ap, subst, ◌∙◌, arith, inl, inr}
use Rattle.std.specs.Prelude.{◌==◌, ◌&&◌, codes, is_some, nat_eq}
use Rattle.std.specs.Option.{option_map}
use Rattle.std.specs.Str.{IsUtf8, IsCharBoundary, IsAscii}
use Rattle.std.proofs.lemmas.List.{drop-append-le}
use Rattle.std.proofs.lemmas.Str.{IsUtf8-append, IsUtf8-from_ascii, IsCharBoundary-end}
use Rattle.jsh_tree.specs.declared.token.Token.{Token}
use Rattle.jsh_lex.specs.declared.lexeme.LexFault.{LexFault}
use Rattle.jsh_lex.specs.declared.lexeme.LexFault.TheVariants.{OpenComment}
use Rattle.jsh_lex.specs.Chars.{begins}
use Rattle.jsh_lex.specs.Lexis.{Lexed, tokens, behind_comment}
use Rattle.jsh_lex.specs.Spelling.{AreTokensBehind}
use Rattle.jsh_pieces.specs.Pieces.{moved, moved_lexed, joined, ends_line, CanResume}
use Rattle.jsh_pieces.proofs.LexisResumes.{resumes}
use Rattle.jsh_pieces.proofs.LexisStillOpen.{stays_open}
use Rattle.jsh_complete.specs.declared.reading.Reader.{Reader}
use Rattle.jsh_complete.specs.Reading.{HasRead}
use Rattle.jsh_complete.proofs.Readings.{read_of_more}
use Rattle.jsh_cut.specs.declared.onward.Onward.TheVariants.{Stays, From}
use Rattle.jsh_cut.specs.Scans.{lexed_as, Goes, EachFits}
use Rattle.jsh_cut.proofs.Outer.{between_on}
use Rattle.jsh_cut.proofs.Faults.{fault_between}

-- ---- the end of a line

line_feed : IsAscii (10 ∷ [])
line_feed zero = omega arith
line_feed (suc i) = omega arith

pub line_utf8 : (line : List ℕ) → IsUtf8 line → IsUtf8 (line ++ 10 ∷ [])
line_utf8 line u = IsUtf8-append line (10 ∷ []) u (IsUtf8-from_ascii (10 ∷ []) line_feed)

-- the last character says whether a line ends
pub ends_by_last : (text : List ℕ) → 0 < length text → nat_eq (get_or text (length text - 1) 0) 10 ≡ ends_line text
ends_by_last [] some = absurd (omega arith)
ends_by_last (c ∷ []) some = refl
ends_by_last (c ∷ d ∷ cs) some =
    let at : length (c ∷ d ∷ cs) - 1 ≡ suc (length (d ∷ cs) - 1) = omega arith in
    ap (λ k. nat_eq (get_or (c ∷ d ∷ cs) k 0) 10) at ∙ ends_by_last (d ∷ cs) (omega arith)

-- ---- the end of a comment

closing_by : (b : Bool) (c : ℕ) (cs : List ℕ) → begins (codes "*/") (c ∷ cs) ≡ b → b ≡ false → behind_comment (c ∷ cs) ≡ behind_comment cs
closing_by b c cs is none = rw (is ∙ none)

not_closed_at : (bytes : List ℕ) (at : ℕ) → at < length bytes → begins (codes "*/") (drop at bytes) ≡ false → behind_comment (drop (suc at) bytes) ≡ behind_comment (drop at bytes)
not_closed_at [] at within none = absurd (omega arith)
not_closed_at (c ∷ cs) zero within none = sym (closing_by (begins (codes "*/") (c ∷ cs)) c cs refl none)
not_closed_at (c ∷ cs) (suc at) within none = not_closed_at cs at (omega arith) none

-- it doesn't end at this place
pub not_closed_here : (bytes : List ℕ) (at : ℕ) → at < length bytes → begins (codes "*/") (drop at bytes) ≡ false → behind_comment (drop (at + 1) bytes) ≡ behind_comment (drop at bytes)
not_closed_here bytes at within none =
    let one : at + 1 ≡ suc at = omega arith in
    ap (λ n. behind_comment (drop n bytes)) one ∙ not_closed_at bytes at within none

-- it does
pub closed_here : (bytes : List ℕ) → begins (codes "*/") bytes ≡ true → is_some (behind_comment bytes) ≡ true
closed_here [] is = absurd cc
closed_here (c ∷ cs) is = rw is

open_by : (c : ℕ) (cs more : List ℕ) (b : Bool) → begins (codes "*/") (c ∷ cs) ≡ b → is_some (behind_comment (c ∷ cs)) ≡ false →
    (b ≡ false → begins (codes "*/") (c ∷ (cs ++ more)) ≡ false) → (is_some (behind_comment cs) ≡ false → behind_comment (cs ++ more) ≡ None) →
    behind_comment (c ∷ (cs ++ more)) ≡ None
open_by c cs more true is none here later = absurd (let some : true ≡ false = sym (closed_here (c ∷ cs) is) ∙ none in cc)
open_by c cs more false is none here later =
    closing_by false c (cs ++ more) (here refl) refl ∙ later (ap is_some (sym (closing_by false c cs is refl)) ∙ none)

begins_at_end : (c : ℕ) (cs : List ℕ) → begins (codes "*/") (c ∷ cs) ≡ false → begins (codes "*/") (c ∷ (cs ++ 10 ∷ [])) ≡ false
begins_at_end c [] none = without (c == 42)
  where
    without : (b : Bool) → (b && false) ≡ false
    without true = refl
    without false = refl
begins_at_end c (d ∷ cs) none = none

-- a line that doesn't close a comment doesn't with its end
pub open_line : (line : List ℕ) → is_some (behind_comment line) ≡ false → behind_comment (line ++ 10 ∷ []) ≡ None
open_line [] none = refl
open_line (c ∷ cs) none = open_by c cs (10 ∷ []) (begins (codes "*/") (c ∷ cs)) refl none (λ e. begins_at_end c cs e) (open_line cs)

-- ---- where the lexis is taken up again

goes_from : (text line : List ℕ) (place : ℕ) → IsUtf8 text → IsUtf8 line → CanResume text place → IsCharBoundary text place →
    Goes (text ++ (line ++ 10 ∷ [])) (tokens text) (From place)
goes_from text line place u v can between =
    let more : List ℕ = line ++ 10 ∷ [] in (
      between_on text more place u (line_utf8 line v) between,
      resumes text more place u (line_utf8 line v) can
          ∙ ap (λ (zs : List ℕ). joined (tokens text).tokens (moved_lexed place (tokens zs))) (sym (drop-append-le place text more between.0)),
    )

-- behind a line without fault
pub goes_behind_line : (text line : List ℕ) → IsUtf8 text → IsUtf8 line → (tokens text).fault ≡ None → ends_line text ≡ true →
    Goes (text ++ (line ++ 10 ∷ [])) (tokens text) (From (length text))
goes_behind_line text line u v none ends = goes_from text line (length text) u v (inl (none, refl, ends)) (IsCharBoundary-end text)

-- from the beginning of a comment
pub goes_at_comment : (text line : List ℕ) (place : ℕ) → IsUtf8 text → IsUtf8 line → (tokens text).fault ≡ Some (OpenComment, place) →
    Goes (text ++ (line ++ 10 ∷ [])) (tokens text) (From place)
goes_at_comment text line place u v fault = goes_from text line place u v (inr fault) (fault_between text OpenComment place u fault)

-- inside one
pub goes_inside : (text line : List ℕ) (place : ℕ) → IsUtf8 text → IsUtf8 line → (tokens text).fault ≡ Some (OpenComment, place) → ends_line text ≡ true →
    is_some (behind_comment line) ≡ false → Goes (text ++ (line ++ 10 ∷ [])) (tokens text) Stays
goes_inside text line place u v fault ends none = stays_open text (line ++ 10 ∷ []) place u (line_utf8 line v) fault ends (open_line line none)

-- ---- tokens further on

pub fits_at : (by : ℕ) (ts : List Token) (i : ℕ) (d : Token) → EachFits by ts → i < length ts →
    (by + (get_or ts i d).span.from < 2 ^ 32) × (by + (get_or ts i d).span.to < 2 ^ 32)
fits_at by [] i d fits within = absurd (omega arith)
fits_at by (t ∷ ts) zero d fits within = (fits.0, fits.1)
fits_at by (t ∷ ts) (suc i) d fits within = fits_at by ts i d fits.2 (omega arith)

-- those of a text
pub stand_fits : (by : ℕ) (text : List ℕ) (end : ℕ) (ts : List Token) → AreTokensBehind text end ts → by + length text < 2 ^ 32 → EachFits by ts
stand_fits by text end [] stand short = tt
stand_fits by text end (t ∷ ts) stand short =
    let some = stand.0.nonempty in
    let within = stand.0.within in
    (omega (arith, some, within, short), omega (arith, within, short), stand_fits by text t.span.to ts stand.1 short)

same_token : (t : Token) → moved 0 t ≡ t
same_token t =
    let from : 0 + t.span.from ≡ t.span.from = omega arith in
    let to : 0 + t.span.to ≡ t.span.to = omega arith in
    let at : ℕ → ℕ → Token = λ a b. record { kind = t.kind; span = record { from = a; to = b } } in
    ap (λ a. at a (0 + t.span.to)) from ∙ ap (at t.span.from) to

same_tokens : (ts : List Token) → map (moved 0) ts ≡ ts
same_tokens [] = refl
same_tokens (t ∷ ts) = ap (λ (u : Token). u ∷ map (moved 0) ts) (same_token t) ∙ ap (λ (us : List Token). t ∷ us) (same_tokens ts)

same_fault : (fault : Option (LexFault × ℕ)) → option_map (λ (f : LexFault × ℕ). (f.0, 0 + f.1)) fault ≡ fault
same_fault None = refl
same_fault (Some f) =
    let at : 0 + f.1 ≡ f.1 = omega arith in
    let here : ℕ → Option (LexFault × ℕ) = λ a. Some (f.0, a) in
    ap here at

-- from the start of a text they are its tokens
pub joined_anew : (text : List ℕ) → joined [] (moved_lexed 0 (tokens text)) ≡ tokens text
joined_anew text =
    let l = tokens text in
    ap (λ (ts : List Token). lexed_as ts (moved_lexed 0 l).fault) (same_tokens l.tokens) ∙ ap (lexed_as l.tokens) (same_fault l.fault)

-- what was read stays read
pub read_onward : (before now : List Token) (more : Lexed) (fault : Option (LexFault × ℕ)) (reader : Reader) → joined before more ≡ lexed_as now fault →
    HasRead before reader → HasRead now reader
read_onward before now more fault reader is read =
    subst (λ (ts : List Token). HasRead ts reader) (ap (λ (l : Lexed). l.tokens) is) (read_of_more before more.tokens reader read)
