use Rattle.std.proofs.Common.{◌∙◌, ℕ, List, ap}
use Rattle.std.specs.Prelude.{slice_range}
use Rattle.jsh_cut.specs.Commands.{begin_of, source_of}
use Rattle.jsh_cut.proofs.waiting.Waiting.source.Goals as goal

pub returns : goal.returns
unfolding source_of
returns c =
    let text = c.args.self.now in
    c.part.ensures ∙ ap (λ (t : List ℕ). slice_range t c.begin.result c.end.result) c.as_str.ensures.value
    ∙ ap (λ n. slice_range text n c.end.result) c.begin.ensures.value ∙ ap (slice_range text (begin_of text)) c.end.ensures.value
