-- What is left of a text behind its first snippet.
use Rattle.std.proofs.Common.{◌≡◌, ℕ, ◌+◌, ◌-◌, ◌<◌, ◌≤◌, List, length, take, drop, Option, sym, ap, subst, ◌∙◌, arith, length-drop}
use Rattle.std.specs.Prelude.{slice_range}
use Rattle.std.specs.Str.{IsUtf8, IsCharBoundary}
use Rattle.std.proofs.lemmas.List.{drop-drop, take-append-drop}
use Rattle.std.proofs.lemmas.Str.{IsCharBoundary-from_rest}
use Rattle.jsh_tree.specs.declared.token.Token.{Token}
use Rattle.jsh_lex.specs.declared.lexeme.LexFault.{LexFault}
use Rattle.jsh_complete.specs.Completeness.{end_of}
use Rattle.jsh_complete.specs.declared.completion.Completeness.TheVariants as completeness
use Rattle.jsh_cut.specs.declared.scan.Scan.{Scan}
use Rattle.jsh_cut.specs.Commands.{completion, begin_of}
use Rattle.jsh_cut.specs.Rests.{IsRest}
use Rattle.jsh_cut.specs.Remainders.{IsRemainder, IsFirst}
use Rattle.jsh_cut.proofs.Beginnings.{rest_behind}

-- the same rest by other names
pub said : {base : ℕ} {fault : Option LexFault} (rest other : List ℕ) (ts us : List Token) → IsRest base rest ts fault → other ≡ rest → us ≡ ts →
    IsRest base other us fault
said {base = base} {fault = fault} rest other ts us is same tokens =
    subst (λ (xs : List Token). IsRest base other xs fault) (sym tokens) (subst (λ (r : List ℕ). IsRest base r ts fault) (sym same) is)

-- It begins with a snippet, which has this source.
pub first_of : (text : List ℕ) (base end : ℕ) (source : List ℕ) → IsUtf8 (drop base text) → (completion (drop base text)).kind ≡ completeness.Complete →
    end ≡ base + (completion (drop base text)).end → source ≡ slice_range (drop base text) (begin_of (drop base text)) (end - base) →
    IsFirst (drop base text) source (drop end text)
first_of text base end source u kind ends is =
    let own = drop base text in
    let back : end - base ≡ (completion own).end = omega (arith, ends) in
    record {
      spelled = u;
      kind = kind;
      first = is ∙ ap (slice_range own (begin_of own)) back;
      behind = ap (λ n. drop n text) ends ∙ sym (drop-drop (completion own).end base text);
    }

-- So many tokens more are cut off with it.
pub left_of : (text : List ℕ) (scan : Scan) (base read count end : ℕ) → IsUtf8 text → IsRemainder text scan base read →
    end ≡ base + (completion (drop base text)).end → IsCharBoundary (drop base text) (completion (drop base text)).end → 0 < count →
    count ≤ length (drop read scan.tokens) → end ≡ end_of (take count (drop read scan.tokens)) → IsRemainder text scan end (read + count)
left_of text scan base read count end u is ends between some few to =
    let own = drop base text in
    let ts = scan.tokens in
    let rest : IsRest end (drop end text) (drop count (drop read ts)) scan.fault =
    rest_behind text (take read ts) (drop read ts) scan.fault count end u (sym is.scanned.tokens ∙ sym (take-append-drop read ts)) is.scanned.fault some few to in
    record {
      short = is.short;
      scanned = is.scanned;
      between = subst (λ (n : ℕ). IsCharBoundary text n) (sym ends) (IsCharBoundary-from_rest text base (completion own).end is.between.0 between);
      few = omega (arith, few, is.few, length-drop read ts);
      rest = subst (λ (xs : List Token). IsRest end (drop end text) xs scan.fault) (drop-drop count read ts) rest;
    }
