-- Of the rest of a text behind a token: its tokens are those of a text of its own, so many bytes further.
use Rattle.std.proofs.Common.{◌≡◌, ℕ, zero, suc, ◌+◌, ◌<◌, ◌≤◌, List, [], ◌∷◌, ◌++◌, length, take, drop, map, Option, refl, sym, ap, subst, ◌∙◌, arith, append_assoc}
use Rattle.std.specs.Prelude.{Some, None}
use Rattle.std.specs.Option.{option_map}
use Rattle.std.specs.Str.{IsUtf8}
use Rattle.std.proofs.lemmas.List.{append_cancel_left}
use Rattle.jsh_tree.specs.declared.token.Token.{Token}
use Rattle.jsh_lex.specs.declared.lexeme.LexFault.{LexFault}
use Rattle.jsh_lex.specs.Lexis.{Lexed, tokens}
use Rattle.jsh_pieces.specs.Pieces.{moved, moved_lexed, joined}
use Rattle.jsh_pieces.proofs.LexisBehind.{behind_token}
use Rattle.jsh_complete.specs.Completeness.{end_of}
use Rattle.jsh_cut.specs.Commands.{fault_of}
use Rattle.jsh_cut.specs.Rests.{IsRest}

-- ---- the whole text

unmoved_token : (t : Token) → t ≡ moved 0 t
unmoved_token t =
    let at : ℕ → ℕ → Token = λ from to. record { kind = t.kind; span = record { from = from; to = to } } in
    let from : t.span.from ≡ 0 + t.span.from = omega arith in
    let to : t.span.to ≡ 0 + t.span.to = omega arith in
    ap (λ n. at n t.span.to) from ∙ ap (at (0 + t.span.from)) to

unmoved : (ts : List Token) → ts ≡ map (moved 0) ts
unmoved [] = refl
unmoved (t ∷ ts) = ap (λ (u : Token). u ∷ ts) (unmoved_token t) ∙ ap (λ (us : List Token). moved 0 t ∷ us) (unmoved ts)

-- A text is all that is left at the beginning.
pub whole_rest : (text : List ℕ) (ts : List Token) (fault : Option LexFault) → ts ≡ (tokens text).tokens → fault ≡ fault_of (tokens text) → IsRest 0 (drop 0 text) ts fault
whole_rest text ts fault same kind = record { tokens = same ∙ unmoved (tokens text).tokens; fault = kind }

-- ---- behind some of the tokens

-- the last of so many tokens, those before it and those behind it
record Cut (ts : List Token) (n : ℕ) : Type 0 where
  before : List Token
  last : Token
  parts : ts ≡ before ++ last ∷ drop n ts
  end : end_of (take n ts) ≡ last.span.to

cut_at : (n : ℕ) (ts : List Token) → 0 < n → n ≤ length ts → Cut ts n
cut_at zero ts some all = absurd (omega arith)
cut_at (suc n) [] some all = absurd (omega arith)
cut_at (suc zero) (t ∷ ts) some all = record { before = []; last = t; parts = refl; end = refl }
cut_at (suc (suc n)) (t ∷ []) some all = absurd (omega arith)
cut_at (suc (suc n)) (t ∷ u ∷ ts) some all =
    let later = cut_at (suc n) (u ∷ ts) (omega arith) (omega arith) in
    record { before = t ∷ later.before; last = later.last; parts = ap (λ us. t ∷ us) later.parts; end = later.end }

-- a fault that is moved has the same kind
moved_fault : (by : ℕ) (fault : Option (LexFault × ℕ)) →
    option_map (λ (f : LexFault × ℕ). f.0) (option_map (λ (f : LexFault × ℕ). (f.0, by + f.1)) fault) ≡ option_map (λ (f : LexFault × ℕ). f.0) fault
moved_fault by None = refl
moved_fault by (Some f) = refl

seam : (before after : List Token) (t : Token) → before ++ t ∷ after ≡ (before ++ t ∷ []) ++ after
seam before after t = sym (append_assoc before (t ∷ []) after)

behind_last : (text : List ℕ) (before after : List Token) (t : Token) → IsUtf8 text → (tokens text).tokens ≡ before ++ t ∷ after →
    IsRest t.span.to (drop t.span.to text) after (fault_of (tokens text))
behind_last text before after t u e =
    let rest = tokens (drop t.span.to text) in
    let law : tokens text ≡ joined (before ++ t ∷ []) (moved_lexed t.span.to rest) = behind_token text before after t u e in
    record {
      tokens = append_cancel_left (before ++ t ∷ []) after (map (moved t.span.to) rest.tokens)
          (sym (seam before after t) ∙ (sym e ∙ ap (λ (l : Lexed). l.tokens) law));
      fault = ap fault_of law ∙ moved_fault t.span.to rest.fault;
    }

-- Behind so many tokens stands what they leave, and has the others.
pub behind_some : (text : List ℕ) (before ts : List Token) (n : ℕ) → IsUtf8 text → (tokens text).tokens ≡ before ++ ts → 0 < n → n ≤ length ts →
    IsRest (end_of (take n ts)) (drop (end_of (take n ts)) text) (drop n ts) (fault_of (tokens text))
behind_some text before ts n u e some all =
    let cut = cut_at n ts some all in
    let parts : (tokens text).tokens ≡ (before ++ cut.before) ++ cut.last ∷ drop n ts =
    e ∙ (ap (λ us. before ++ us) cut.parts ∙ sym (append_assoc before cut.before (cut.last ∷ drop n ts))) in
    subst (λ to. IsRest to (drop to text) (drop n ts) (fault_of (tokens text))) (sym cut.end) (behind_last text (before ++ cut.before) (drop n ts) cut.last u parts)
