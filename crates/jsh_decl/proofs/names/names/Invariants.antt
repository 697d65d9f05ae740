use Rattle.std.proofs.Common.{drop, [], ◌-◌, ◌≤◌, ◌≡◌}
use Rattle.jsh_parse.proofs.Onward.{prepend}
use Rattle.jsh_decl.specs.DeclarationReader.{names_read}
use Rattle.jsh_decl.proofs.names.names.Given as goal

abbrev pub invariant-loop-turn : goal.invariant-loop-turn
invariant-loop-turn l = record {
  forward : l.from ≤ l.at;
  reads : prepend [] (names_read l.most l.input.text.now (drop l.from l.input.tokens.now))
      ≡ prepend l.names.items (names_read (l.most - l._turn) l.input.text.now (drop l.at l.input.tokens.now));
}
