use Rattle.std.proofs.Common.{◌≡◌, ◌++◌, take, flat_map}
use Rattle.jsh_render.specs.Snippets.{warning_line}
use Rattle.jsh_render.proofs.snippets.push_warnings.Given as goal

abbrev pub invariant-loop-modifier : goal.invariant-loop-modifier
invariant-loop-modifier l = l.bytes.items ≡ l.initial.bytes.items ++ flat_map warning_line (take l.modifier-index l.ignored)
