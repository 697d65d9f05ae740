use Rattle.std.proofs.lemmas.List.{append_assoc}
use Rattle.jsh_render.proofs.diagnostics.error_at.Goals as goal

pub returns : goal.returns
returns c = simp append_assoc c.in_ok-format.ensures.ok
