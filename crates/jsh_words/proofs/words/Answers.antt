use Rattle.std.proofs.Common.{ap, ◌∙◌, sym}
use Rattle.std.specs.Prelude.{option_and_then}
use Rattle.std.proofs.lemmas.Result.{IfOk-weaker, IfErr-weaker}
use Rattle.jsh_words.specs.Meant.{given_by, meant}
use Rattle.jsh_words.proofs.words.Goals as goal

pub returns : goal.returns
returns c =
    let ps = c.in_ok-matches.ensures.found in
    let given = c.in_ok-found.ensures ps.0 ps.2 in
    let whole = ap (option_and_then (λ p. meant (given_by p))) ps.1 ∙ ap meant (sym given) in
    record {
      ok = IfOk-weaker c.meant.result _ _ (λ m is. whole ∙ is) c.meant.ensures.ok;
      refused = IfErr-weaker c.meant.result _ _ (λ e is refused. whole ∙ is refused) c.meant.ensures.refused;
    }
