use Rattle.std.proofs.Common.{◌≡◌, drop}
use Rattle.jsh_render.specs.Names.{distinct, further}
use Rattle.jsh_render.proofs.names.distinct.Given as goal

abbrev pub invariant-loop-name : goal.invariant-loop-name
invariant-loop-name l = further l.found.items (drop l.name-index l.names) ≡ distinct l.names
