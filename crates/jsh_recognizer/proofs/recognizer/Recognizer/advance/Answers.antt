-- The frames that come of a token that is taken fit, and are within the limit and the bound.
use Rattle.std.proofs.Common.{◌≤◌, arith}
use Rattle.jsh_recognizer.specs.Stacks.{frames_of}
use Rattle.jsh_recognizer.proofs.Advanced.{next-within, next-bounded, room-for, each-within, each-bounded}
use Rattle.jsh_recognizer.proofs.recognizer.Recognizer.advance.Goals as goal

pub replace-requires : goal.replace-requires
replace-requires c =
    let old = c.args.self.now in
    let found = c.in-Some.found in
    let le : found.at ≤ 256 = omega arith in
    let within = next-within found.at found.left old.stack.items (frames_of found.fresh) old.within c.in-Some.ensures.1 le in
    let bounded = next-bounded c.args.kind found.at found.left old.stack.items (frames_of found.fresh) old.bounded c.in-Some.ensures.0 in
    room-for found.left old.stack.items found.fresh.items bounded within

pub invariant_of-self : goal.invariant_of-self
invariant_of-self c =
    let old = c.args.self.now in
    let found = c.in-Some.found in
    let le : found.at ≤ 256 = omega arith in
    let within = next-within found.at found.left old.stack.items (frames_of found.fresh) old.within c.in-Some.ensures.1 le in
    let bounded = next-bounded c.args.kind found.at found.left old.stack.items (frames_of found.fresh) old.bounded c.in-Some.ensures.0 in
    record {
      within = each-within _ c.replace.new.stack.items c.replace.ensures within;
      bounded = each-bounded _ c.replace.new.stack.items c.replace.ensures bounded;
    }
