use Rattle.std.proofs.Common.{[], ◌∷◌, ◌∙◌, List, sym, subst}
use Rattle.jsh_tree.specs.declared.token.Token.{Token}
use Rattle.jsh_complete.specs.Reading.{HasRead}
use Rattle.jsh_complete.proofs.Readings.{read_of_more}
use Rattle.jsh_complete.proofs.tests.check_reader.Goals as goal

pub analyze-found-requires-clause-read : goal.analyze-found-requires-clause-read
analyze-found-requires-clause-read g c =
    subst (λ (ts : List Token). HasRead ts c.loop-token.reader) (sym (c.as_slice.ensures.value ∙ c.in_ok-push.ensures.items))
    (read_of_more c.loop-token.front.items (_ ∷ []) c.loop-token.reader c.loop-token.invariant)
