use Rattle.std.proofs.Common.{◌≡◌, ◌++◌, take, flat_map}
use Rattle.jsh_render.specs.Diagnostics.{error_line}
use Rattle.jsh_render.proofs.snippets.push_errors.Given as goal

abbrev pub invariant-loop-diagnostic : goal.invariant-loop-diagnostic
invariant-loop-diagnostic l = l.bytes.items ≡ l.initial.bytes.items ++ flat_map (error_line l.source) (take l.diagnostic-index l.diagnostics)
