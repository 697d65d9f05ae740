-- There is room for the frames.
use Rattle.std.proofs.Common.{◌+◌, ◌≡◌, ◌≤◌, length, take, false, true, ap, arith}
use Rattle.jsh_recognizer.proofs.Stepping.{put-front}
use Rattle.jsh_recognizer.proofs.recognizer.replace.Goals as goal

pub unreachable-requires : goal.unreachable-requires
unreachable-requires c =
    let kept : length c.truncate.new.self.items ≡ length (take c.args.left c.args.stack.now.items) = ap length c.truncate.ensures.items in
    let more : length c.deref.result.now ≡ length c.args.fresh.now.items = ap length c.deref.ensures.0 in
    let fits : length c.truncate.new.self.items + length c.deref.result.now ≤ 777 = omega (arith, kept, more, c.requires) in
    let ok : false ≡ true = c.in_default.ensures.variant.1 fits in
    cc

pub returns : goal.returns
returns c = put-front _ _ _ _ _ c.args.left c.in-Ok.ensures.ok c.truncate.ensures.items c.deref.ensures.0
