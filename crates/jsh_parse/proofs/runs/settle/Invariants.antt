use Rattle.std.proofs.Common.{◌≡◌, ℕ, ◌≤◌, length, drop}
use Rattle.jsh_parse.specs.Runs.{begun, resumed, risen, work}
use Rattle.jsh_parse.proofs.runs.settle.Given as goal

abbrev pub invariant-turns : goal.invariant-turns
invariant-turns l = record {
  forward : l.from ≤ l.at;
  reads : (room : ℕ) → resumed l.input.text.now room l.fn.waiting.items (risen l.input.text.now room (begun l.fn.operand l.height) (drop l.from l.input.tokens.now))
      ≡ resumed l.input.text.now room l.waiting.items (risen l.input.text.now room l.run (drop l.at l.input.tokens.now));
}

abbrev pub decreases-turns : goal.decreases-turns
decreases-turns l = work (length l.input.tokens.now) l.waiting.items l.run l.at
