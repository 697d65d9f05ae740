use Rattle.std.proofs.Common.{◌∙◌, ap}
use Rattle.std.specs.Prelude.{slice_range}
use Rattle.jsh_cut.specs.Commands.{begin_of, source_of}
use Rattle.jsh_cut.proofs.rest.rest_source.Goals as goal

pub returns : goal.returns
unfolding source_of
returns c =
    let rest = c.args.rest.now in
    c.part.ensures ∙ ap (λ n. slice_range rest n c.end.result) c.begin.ensures.value ∙ ap (slice_range rest (begin_of rest)) c.end.ensures.value
