use Rattle.std.proofs.Common.{◌≡◌, take, flat_map}
use Rattle.jsh_scope.specs.Reached.{visible_types}
use Rattle.jsh_scope.specs.Answers.{method_at}
use Rattle.jsh_scope.proofs.env.Env.methods_at.Given as goal

abbrev pub invariant-loop-place : goal.invariant-loop-place
invariant-loop-place l = l.answers.items ≡ flat_map (method_at (visible_types l.self.members) l.self.members) (take l.place-index l.places)
