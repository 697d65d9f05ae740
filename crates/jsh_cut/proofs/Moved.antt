-- What the places of tokens have to do with a completion: they give the end of a first snippet, and nothing else.
use Rattle.std.proofs.Common.{◌≡◌, ℕ, suc, ◌+◌, ◌<◌, ◌≤◌, List, [], ◌∷◌, length, take, map, Option, refl, sym, ap, subst, ◌∙◌, arith}
use Rattle.std.proofs.lemmas.List.{take-map, length-map}
use Rattle.jsh_tree.specs.declared.token.Token.{Token}
use Rattle.jsh_tree.specs.declared.token.TokenKind.{TokenKind}
use Rattle.jsh_lex.specs.declared.lexeme.LexFault.{LexFault}
use Rattle.jsh_grammar.specs.Productions.{snippet}
use Rattle.jsh_grammar.specs.Fronts.{IsPrefix}
use Rattle.jsh_recognizer.specs.Recognizing.{kinds}
use Rattle.jsh_pieces.specs.Pieces.{moved}
use Rattle.jsh_complete.specs.declared.completion.Completeness.TheVariants as completeness
use Rattle.jsh_complete.specs.declared.completion.Completion.{Completion}
use Rattle.jsh_complete.specs.Completeness.{Stop, IsTooDeep, Counts, all, some, IsSnippet, Rule, no_tokens, else_may_follow, whole, lacks_semicolon, lacks_more, begins_whole, otherwise, Applies, NoneApplies, before, kind_by, end_of, IsEndOfLongest, IsEndBy, IsCompletion, by_rule}
use Rattle.jsh_cut.proofs.Completions.{no_empty_snippet}

-- ---- tokens that are moved

moved_kinds : (base : ℕ) (ts : List Token) → kinds (map (moved base) ts) ≡ kinds ts
moved_kinds base [] = refl
moved_kinds base (t ∷ ts) = ap (λ ks. t.kind ∷ ks) (moved_kinds base ts)

-- a front of them
moved_front : (base n : ℕ) (ts : List Token) → kinds (take n (map (moved base) ts)) ≡ kinds (take n ts)
moved_front base n ts = ap kinds (take-map (moved base) n ts) ∙ moved_kinds base (take n ts)

-- they end so much further
pub moved_end : (base : ℕ) (t : Token) (ts : List Token) → end_of (map (moved base) (t ∷ ts)) ≡ base + end_of (t ∷ ts)
moved_end base t [] = refl
moved_end base t (u ∷ ts) = moved_end base u ts

snippet_end : (base : ℕ) (ts : List Token) → IsSnippet (kinds ts) → end_of (map (moved base) ts) ≡ base + end_of ts
snippet_end base [] is = absurd (no_empty_snippet is)
snippet_end base (t ∷ ts) is = moved_end base t ts

-- ---- the tokens that count

own_depth : (base n : ℕ) (ts : List Token) → IsTooDeep (map (moved base) ts) n → IsTooDeep ts n
own_depth base n ts deep =
    let next = moved_front base (suc n) ts in (
      subst (IsPrefix snippet 256) (moved_front base n ts) deep.0,
      ((deep.1.0.0, subst (IsPrefix snippet deep.1.0.0) next deep.1.0.1), λ within. deep.1.1 (subst (IsPrefix snippet 256) (sym next) within)),
    )

moved_depth : (base n : ℕ) (ts : List Token) → IsTooDeep ts n → IsTooDeep (map (moved base) ts) n
moved_depth base n ts deep =
    let next = moved_front base (suc n) ts in (
      subst (IsPrefix snippet 256) (sym (moved_front base n ts)) deep.0,
      ((deep.1.0.0, subst (IsPrefix snippet deep.1.0.0) (sym next) deep.1.0.1), λ within. deep.1.1 (subst (IsPrefix snippet 256) next within)),
    )

-- the tokens that count, without the move
own_counts : (base : ℕ) (ts : List Token) (fault : Option LexFault) (counted : List Token) (stop : Stop) → Counts (map (moved base) ts) fault counted stop →
    (own : List Token) × (counted ≡ map (moved base) own) × Counts ts fault own stop
own_counts base ts fault counted stop (all never) = (ts, refl, all (λ n deep. never n (moved_depth base n ts deep)))
own_counts base ts fault counted stop (some n deep) = (take n ts, take-map (moved base) n ts, some n (own_depth base n ts deep))

-- ---- the end

-- an end, without the move
abbrev OwnEnd : Rule → ℕ → List ℕ → List Token → ℕ → Type 0
OwnEnd rule base text ts end = (own : ℕ) × IsEndBy rule text ts own × (kind_by rule ≡ completeness.Complete → end ≡ base + own)

own_longest : (base : ℕ) (ts : List Token) (end : ℕ) → IsEndOfLongest (map (moved base) ts) end → (own : ℕ) × IsEndOfLongest ts own × (end ≡ base + own)
own_longest base ts end (n, is, none, to) =
    let snippet_is : IsSnippet (kinds (take n ts)) = subst IsSnippet (moved_front base n ts) is in
    let no_longer : (m : ℕ) → n < m → m ≤ length ts → IsSnippet (kinds (take m ts)) → ⊥ =
    λ m longer within also. none m longer (omega (arith, length-map ts (moved base))) (subst IsSnippet (sym (moved_front base m ts)) also) in
    (end_of (take n ts), (n, snippet_is, no_longer, refl), to ∙ (ap end_of (take-map (moved base) n ts) ∙ snippet_end base (take n ts) snippet_is))

own_end : (rule : Rule) (base : ℕ) (text : List ℕ) (ts : List Token) (end : ℕ) → IsEndBy rule text (map (moved base) ts) end → OwnEnd rule base text ts end
own_end whole base text ts end is = let own = own_longest base ts end is in (own.0, own.1, λ complete. own.2)
own_end begins_whole base text ts end is = let own = own_longest base ts end is in (own.0, own.1, λ complete. own.2)
own_end no_tokens base text ts end is = (end, is, λ complete. absurd cc)
own_end else_may_follow base text ts end is = (end, is, λ complete. absurd cc)
own_end lacks_semicolon base text ts end is = (end, is, λ complete. absurd cc)
own_end lacks_more base text ts end is = (end, is, λ complete. absurd cc)
own_end otherwise base text ts end is = (end, is, λ complete. absurd cc)

-- ---- all of it

-- a completion of the same kind for the tokens without the move, which ends so much before
pub record OwnCompletion (base : ℕ) (text : List ℕ) (ts : List Token) (fault : Option LexFault) (c : Completion) : Type 0 where
  pub own : Completion
  pub is : IsCompletion text ts fault own
  pub kind : c.kind ≡ own.kind
  pub end : c.kind ≡ completeness.Complete → c.end ≡ base + own.end

pub own_completion : (base : ℕ) (text : List ℕ) (ts : List Token) (fault : Option LexFault) (c : Completion) → IsCompletion text (map (moved base) ts) fault c →
    OwnCompletion base text ts fault c
own_completion base text ts fault c (by_rule {counted = counted} {stop = stop} rule counts applies none kind end) =
    let own = own_counts base ts fault counted stop counts in
    let same : kinds counted ≡ kinds own.0 = ap kinds own.1 ∙ moved_kinds base own.0 in
    let to = own_end rule base text own.0 c.end (subst (λ (us : List Token). IsEndBy rule text us c.end) own.1 end) in
    record {
      own = record { kind = c.kind; end = to.0 };
      is = by_rule rule own.2 (subst (λ (ks : List TokenKind). Applies ks stop rule) same applies)
          (subst (λ (ks : List TokenKind). NoneApplies ks stop (before rule)) same none) kind to.1;
      kind = refl;
      end = λ complete. to.2 (sym kind ∙ complete);
    }
