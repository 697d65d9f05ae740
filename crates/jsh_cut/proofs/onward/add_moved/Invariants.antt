use Rattle.std.proofs.Common.{◌≡◌, ◌++◌, map, take}
use Rattle.jsh_pieces.specs.Pieces.{moved}
use Rattle.jsh_cut.proofs.onward.add_moved.Given as goal

abbrev pub invariant-loop-token : goal.invariant-loop-token
invariant-loop-token l = l.tokens.items ≡ l.fn.tokens.items ++ map (moved l.by) (take l.token-index l.more)
