use Rattle.std.proofs.Common.{◌≡◌, List, sym, ◌∙◌, ap}
use Rattle.jsh_tree.specs.declared.library.Member.{Member}
use Rattle.jsh_tree.specs.declared.library.Library.{Library}
use Rattle.jsh_scope.specs.Scope.{Scope}
use Rattle.jsh_scope.proofs.env.Env.new.Goals as goal

abbrev scope : List Member → Library → Scope
scope members library = record { members = members; library = library }

pub returns : goal.returns
returns c =
    ap (λ (members : List Member). scope members c.in_ok-library_copy.field-0) c.in_ok-copied.ensures
    ∙ ap (λ (library : Library). scope c.args.members.now library) c.in_ok-library_copy.ensures
