use Rattle.std.proofs.Common.{◌≡◌, ◌∙◌, ◌+◌, ◌-◌, ◌≤◌, ℕ, List, take, drop, length, ap, sym, subst}
use Rattle.std.specs.Prelude.{slice_range}
use Rattle.std.specs.Str.{IsUtf8, IsCharBoundary}
use Rattle.jsh_tree.specs.declared.token.Token.{Token}
use Rattle.jsh_complete.specs.Completeness.{end_of}
use Rattle.jsh_complete.specs.declared.completion.Completeness.TheVariants as completeness
use Rattle.jsh_cut.specs.Commands.{begin_of, completion}
use Rattle.jsh_cut.proofs.Remainders.{said, first_of, left_of}
use Rattle.jsh_cut.proofs.remainder.find.Goals as goal

pub range_from-rest-requires : goal.range_from-rest-requires
range_from-rest-requires c = λ some. c.requires.between

pub beginning_of-beginning-requires-clause-rest : goal.beginning_of-beginning-requires-clause-rest
beginning_of-beginning-requires-clause-rest c =
    said (drop c.args.base c.args.text.now) c.range_from-rest.result.now (drop c.args.read c.args.scan.now.tokens) c.tokens_behind-tokens.result.now c.requires.rest
    c.range_from-rest.ensures.value (c.tokens_behind-tokens.ensures ∙ ap (λ (ts : List Token). drop c.args.read ts) c.as_slice.ensures)

pub returns-in_ok-from_text-in-Complete : goal.returns-in_ok-from_text-in-Complete
returns-in_ok-from_text-in-Complete c =
    let text = c.args.text.now in
    let base = c.args.base in
    let own = drop base text in
    let left = drop c.args.read c.args.scan.now.tokens in
    let beginning = c.beginning_of-beginning.result in
    let told = c.beginning_of-beginning.ensures in
    let complete = c.in-Complete.is in
    let is : c.range_from-rest.result.now ≡ own = c.range_from-rest.ensures.value in
    let same : c.tokens_behind-tokens.result.now ≡ left = c.tokens_behind-tokens.ensures ∙ ap (λ (ts : List Token). drop c.args.read ts) c.as_slice.ensures in
    let kind : (completion own).kind ≡ completeness.Complete = ap (λ (r : List ℕ). (completion r).kind) (sym is) ∙ (sym told.kind ∙ complete) in
    let end : beginning.end ≡ base + (completion own).end = told.end complete ∙ ap (λ (r : List ℕ). base + (completion r).end) is in
    let between : IsCharBoundary own (completion own).end = subst (λ (r : List ℕ). IsCharBoundary r (completion r).end) is (told.between complete) in
    let count = told.count complete in
    let few : beginning.count ≤ length left = subst (λ (ts : List Token). beginning.count ≤ length ts) same told.few in
    let to : beginning.end ≡ end_of (take beginning.count left) = subst (λ (ts : List Token). beginning.end ≡ end_of (take beginning.count ts)) same count.1 in
    let source : c.in_ok-from_text-in-Complete.field-0 ≡ slice_range own (begin_of own) (beginning.end - base) =
    c.in_ok-from_text-in-Complete.ensures
    ∙ (c.first_source-source.ensures ∙ ap (λ (r : List ℕ). slice_range r (begin_of r) (beginning.end - base)) is) in (
      first_of text base beginning.end c.in_ok-from_text-in-Complete.field-0 (subst (λ (r : List ℕ). IsUtf8 r) is c.range_from-rest.utf8) kind end source,
      left_of text c.args.scan.now base c.args.read beginning.count beginning.end c.utf8.text c.requires end between count.0 few to,
    )
