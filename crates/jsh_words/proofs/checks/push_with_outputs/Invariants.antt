use Rattle.std.proofs.Common.{◌≡◌, ◌++◌, drop}
use Rattle.jsh_words.specs.Clap.{texts}
use Rattle.jsh_words.specs.Meant.{with_outputs}
use Rattle.jsh_words.proofs.checks.push_with_outputs.Given as goal

abbrev pub invariant-loop-name : goal.invariant-loop-name
invariant-loop-name l = l.files.items ++ with_outputs (texts (drop l.name-index l.names)) ≡ l.fn.files.items ++ with_outputs (texts l.names)
