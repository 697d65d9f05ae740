use Rattle.std.proofs.Common.{drop, [], ◌-◌, ◌≤◌, ◌≡◌}
use Rattle.jsh_parse.proofs.Onward.{prepend}
use Rattle.jsh_decl.specs.DeclarationReader.{interface_methods_read}
use Rattle.jsh_decl.proofs.types.interface_methods.Given as goal

abbrev pub invariant-loop-turn : goal.invariant-loop-turn
invariant-loop-turn l = record {
  forward : l.from ≤ l.at;
  reads : prepend [] (interface_methods_read l.most l.input.text.now l.room (drop l.from l.input.tokens.now))
      ≡ prepend l.methods.items (interface_methods_read (l.most - l._turn) l.input.text.now l.room (drop l.at l.input.tokens.now));
}
