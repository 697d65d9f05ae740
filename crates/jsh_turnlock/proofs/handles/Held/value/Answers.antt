use Rattle.std.proofs.Common.{refl}
use Rattle.jsh_turnlock.proofs.Props.{same_turn}
use Rattle.jsh_turnlock.proofs.handles.Held.value.Goals as goal

pub returns : goal.returns
returns g c = ((refl, λ w. same_turn g.row.T.coded g.row.T-Item.coded c.args.self.now w _ _ _ _), record { writes_back = tt; value = refl })
