use Rattle.std.proofs.Common.{◌≡◌, ◌+◌, ◌*◌, ◌-◌, ◌≤◌, ◌⊎◌, length, drop}
use Rattle.jsh_parse.specs.Reader.{brackets}
use Rattle.jsh_parse.proofs.leaves.brackets.Given as goal

abbrev pub invariant-loop-dims : goal.invariant-loop-dims
invariant-loop-dims l = record {
  dims : (brackets (drop l.from l.input.tokens.now)).0 ≡ l.dims + (brackets (drop l.at l.input.tokens.now)).0;
  rest : (brackets (drop l.from l.input.tokens.now)).1 ≡ (brackets (drop l.at l.input.tokens.now)).1;
  forward : l.at ≡ l.from + 2 * l.dims;
  inside : (l.dims ≡ 0) ⊎ (l.at ≤ length l.input.tokens.now);
}

abbrev pub decreases-loop-dims : goal.decreases-loop-dims
decreases-loop-dims l = length l.input.tokens.now - l.at
