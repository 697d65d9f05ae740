-- The one frame stands at the least depth, and needs no more than there are for it.
use Rattle.std.proofs.Common.{◌≡◌, ◌∙◌}
use Rattle.jsh_recognizer.specs.Stacks.{frames_of}
use Rattle.jsh_recognizer.specs.Recognizing.{first}
use Rattle.jsh_recognizer.proofs.Stepping.{one-frame}
use Rattle.jsh_recognizer.proofs.Bounded.{first-bounded}
use Rattle.jsh_recognizer.proofs.Advanced.{first-within, each-within, each-bounded}
use Rattle.jsh_recognizer.proofs.recognizer.Recognizer.new.Goals as goal

pub returns : goal.returns
returns c = one-frame c.push.new.self.items c.new-stack.result.items c.first_of.result c.push.ensures.items c.new-stack.ensures ∙ c.first_of.ensures

pub invariant_of-result : goal.invariant_of-result
invariant_of-result c =
    let is : frames_of c.push.new.self ≡ first c.args.start =
    one-frame c.push.new.self.items c.new-stack.result.items c.first_of.result c.push.ensures.items c.new-stack.ensures ∙ c.first_of.ensures in
    record {
      within = each-within (first c.args.start) c.push.new.self.items is (first-within c.args.start);
      bounded = each-bounded (first c.args.start) c.push.new.self.items is (first-bounded c.args.start);
    }
