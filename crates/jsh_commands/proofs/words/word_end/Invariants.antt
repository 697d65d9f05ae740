use Rattle.std.proofs.Common.{◌≡◌, ◌-◌, ◌≤◌, ◌++◌, length, take, drop}
use Rattle.jsh_lex.specs.Chars.{take_while, drop_while}
use Rattle.jsh_commands.specs.Words.{is_no_space}
use Rattle.jsh_commands.proofs.words.word_end.Given as goal

abbrev pub invariant-loop-at : goal.invariant-loop-at
invariant-loop-at l = record {
  word : take l.at l.bytes ++ take_while is_no_space (drop l.at l.bytes) ≡ take_while is_no_space l.bytes;
  rest : drop_while is_no_space (drop l.at l.bytes) ≡ drop_while is_no_space l.bytes;
  within : l.at ≤ length l.bytes;
}

abbrev pub decreases-loop-at : goal.decreases-loop-at
decreases-loop-at l = length l.bytes - l.at
