use Rattle.std.proofs.Common.{drop, [], ◌-◌, ◌≤◌, ◌≡◌}
use Rattle.jsh_parse.proofs.Onward.{prepend}
use Rattle.jsh_decl.specs.DeclarationReader.{members_read}
use Rattle.jsh_decl.proofs.members.members.Given as goal

abbrev pub invariant-loop-turn : goal.invariant-loop-turn
invariant-loop-turn l = record {
  forward : l.from ≤ l.at;
  reads : prepend [] (members_read l.most l.input.text.now l.room (drop l.from l.input.tokens.now))
      ≡ prepend l.members.items (members_read (l.most - l._turn) l.input.text.now l.room (drop l.at l.input.tokens.now));
}
