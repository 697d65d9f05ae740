use Rattle.std.proofs.Common.{drop, [], ◌-◌, ◌≤◌, ◌≡◌}
use Rattle.jsh_decl.specs.DeclarationReader.{dotted_read}
use Rattle.jsh_decl.proofs.DeclarationOnward.{with_parts}
use Rattle.jsh_decl.proofs.names.dotted.Given as goal

abbrev pub invariant-loop-turn : goal.invariant-loop-turn
invariant-loop-turn l = record {
  forward : l.from ≤ l.at;
  reads : with_parts [] (dotted_read l.most l.input.text.now (drop l.from l.input.tokens.now))
      ≡ with_parts l.parts.items (dotted_read (l.most - l._turn) l.input.text.now (drop l.at l.input.tokens.now));
}
