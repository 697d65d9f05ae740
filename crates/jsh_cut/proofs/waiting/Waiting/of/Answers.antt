use Rattle.std.proofs.Common.{◌≡◌, ◌∙◌, ℕ, List, ap, sym, subst}
use Rattle.std.proofs.lemmas.Str.{IsCharBoundary-start}
use Rattle.jsh_tree.specs.declared.token.Token.{Token}
use Rattle.jsh_lex.specs.Lexis.{tokens}
use Rattle.jsh_pieces.specs.Pieces.{moved_lexed, joined}
use Rattle.jsh_complete.specs.declared.reading.Reader.{Reader}
use Rattle.jsh_complete.specs.Reading.{HasRead}
use Rattle.jsh_cut.specs.Scans.{IsKnown, lexed_as}
use Rattle.jsh_cut.proofs.Onwards.{joined_anew}
use Rattle.jsh_cut.proofs.waiting.Waiting.of.Goals as goal

pub lex_from-requires-clause-between : goal.lex_from-requires-clause-between
lex_from-requires-clause-between c = IsCharBoundary-start c.args.text.now c.utf8.text

pub invariant_of-result : goal.invariant_of-result
invariant_of-result c =
    let text = c.args.text.now in
    let ts = c.lex_from.new.tokens.items in
    let fault = c.in_ok-fault.fault in
    let lexed : tokens text ≡ lexed_as ts fault =
    sym (joined_anew text) ∙ ap (λ (us : List Token). joined us (moved_lexed 0 (tokens text))) (sym c.new-tokens.ensures.items) ∙ c.in_ok-fault.ensures in
    let known : IsKnown text ts fault c.first_place.result c.last_place.result c.in_ok-new.field-0.value = record {
      short = c.requires;
      lexed = lexed;
      begins = c.first_place.ensures.value;
      begins_between = c.first_place.ensures.between;
      ends = c.last_place.ensures.value;
      ends_between = c.last_place.ensures.between;
      read = subst (λ (r : Reader). HasRead ts r) (sym c.in_ok-new.ensures.ok) (c.new.ensures ts);
    } in
    subst (λ (t : List ℕ). IsKnown t ts fault c.first_place.result c.last_place.result c.in_ok-new.field-0.value) (sym c.in_ok-from_str.ensures.ok) known
