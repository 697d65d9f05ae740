use Rattle.std.proofs.Common.{drop, [], ◌-◌, ◌≤◌, ◌≡◌, length}
use Rattle.jsh_parse.proofs.Onward.{prepend}
use Rattle.jsh_decl.specs.DeclarationReading.{allowed, modifiers_at}
use Rattle.jsh_decl.proofs.modifiers.modifiers.Given as goal

abbrev pub invariant-loop-further : goal.invariant-loop-further
invariant-loop-further l = record {
  forward : l.from ≤ l.at;
  reads : prepend [] (modifiers_at (allowed l.place) (drop l.from l.input.tokens.now))
      ≡ prepend l.modifiers.items (modifiers_at (allowed l.place) (drop l.at l.input.tokens.now));
}

abbrev pub decreases-loop-further : goal.decreases-loop-further
decreases-loop-further l = length l.input.tokens.now - l.at
