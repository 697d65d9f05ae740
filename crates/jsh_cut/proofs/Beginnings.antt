-- How a rest begins, and what is left behind its first snippet.
use Rattle.std.proofs.Common.{◌≡◌, ℕ, ◌+◌, ◌<◌, ◌≤◌, List, ◌++◌, length, take, drop, Option, sym, ap, subst, ◌∙◌, append_assoc}
use Rattle.std.specs.Str.{IsUtf8, IsCharBoundary}
use Rattle.std.proofs.lemmas.List.{take-append-drop}
use Rattle.jsh_tree.specs.declared.token.Token.{Token}
use Rattle.jsh_lex.specs.declared.lexeme.LexFault.{LexFault}
use Rattle.jsh_lex.specs.Lexis.{tokens}
use Rattle.jsh_complete.specs.declared.completion.Completeness.TheVariants as completeness
use Rattle.jsh_complete.specs.declared.completion.Completion.{Completion}
use Rattle.jsh_complete.specs.Completeness.{IsCompletion, end_of}
use Rattle.jsh_cut.specs.Commands.{completion, fault_of}
use Rattle.jsh_cut.specs.Rests.{placed, IsRest}
use Rattle.jsh_cut.proofs.Completions.{is_completion, complete_ends}
use Rattle.jsh_cut.proofs.Moved.{own_completion}
use Rattle.jsh_cut.proofs.Rests.{behind_some}

-- it tells the kind of the rest, and where its first snippet ends, in places of the whole text
pub record Tells (base : ℕ) (rest : List ℕ) (c : Completion) : Type 0 where
  pub kind : c.kind ≡ (completion rest).kind
  pub end : c.kind ≡ completeness.Complete → c.end ≡ base + (completion rest).end
  pub between : c.kind ≡ completeness.Complete → IsCharBoundary rest (completion rest).end
  pub some : c.kind ≡ completeness.Complete → 0 < (completion rest).end

-- What is said of a rest by its tokens in the whole text.
pub tells : (base : ℕ) (rest : List ℕ) (ts : List Token) (fault : Option LexFault) (c : Completion) → IsUtf8 rest → IsRest base rest ts fault → IsCompletion rest ts fault c →
    Tells base rest c
tells base rest ts fault c u is said =
    let there : IsCompletion rest (placed base rest) (fault_of (tokens rest)) c =
    subst (λ (x : Option LexFault). IsCompletion rest (placed base rest) x c) is.fault (subst (λ (us : List Token). IsCompletion rest us fault c) is.tokens said) in
    let own = own_completion base rest (tokens rest).tokens (fault_of (tokens rest)) c there in
    let same : own.own ≡ completion rest = is_completion rest own.own own.is in
    let ends : c.kind ≡ completeness.Complete → IsCharBoundary rest own.own.end × (0 < own.own.end) =
    λ complete. complete_ends rest own.own u own.is (sym own.kind ∙ complete) in
    record {
      kind = own.kind ∙ ap (λ (d : Completion). d.kind) same;
      end = λ complete. own.end complete ∙ ap (λ (d : Completion). base + d.end) same;
      between = λ complete. subst (λ (d : Completion). IsCharBoundary rest d.end) same (ends complete).0;
      some = λ complete. subst (λ (d : Completion). 0 < d.end) same (ends complete).1;
    }

-- so many tokens more are behind
pub behind_more : (every before ts : List Token) (n : ℕ) → every ≡ before ++ ts → (more : List Token) × (every ≡ more ++ drop n ts)
behind_more every before ts n e =
    (before ++ take n ts, e ∙ (ap (λ (us : List Token). before ++ us) (sym (take-append-drop n ts)) ∙ sym (append_assoc before (take n ts) (drop n ts))))

-- Behind its first snippet a rest has the other tokens.
pub rest_behind : (text : List ℕ) (before ts : List Token) (fault : Option LexFault) (n end : ℕ) → IsUtf8 text → (tokens text).tokens ≡ before ++ ts → fault ≡ fault_of (tokens text) →
    0 < n → n ≤ length ts → end ≡ end_of (take n ts) → IsRest end (drop end text) (drop n ts) fault
rest_behind text before ts fault n end u e kind some few to =
    subst (λ (k : ℕ). IsRest k (drop k text) (drop n ts) fault) (sym to)
    (subst (λ (x : Option LexFault). IsRest (end_of (take n ts)) (drop (end_of (take n ts)) text) (drop n ts) x) (sym kind) (behind_some text before ts n u e some few))
