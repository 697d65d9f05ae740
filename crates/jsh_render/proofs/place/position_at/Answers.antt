use Rattle.std.proofs.Common.{rules}
use Rattle.jsh_render.specs.Place.{position_of}
use Rattle.jsh_render.proofs.place.position_at.Goals as goal

pub returns : goal.returns
unfolding position_of
returns c = search rules
