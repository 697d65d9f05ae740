use Rattle.jsh_scope.proofs.Clones.{library_same}
use Rattle.jsh_scope.proofs.copies.library_copy.Goals as goal

pub returns : goal.returns
returns c = library_same c.args.library.now c.in_ok-copy.copy c.in_ok-copy.ensures.cases
