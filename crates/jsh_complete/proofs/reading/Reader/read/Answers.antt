use Rattle.std.proofs.Common.{take, sym, ◌∙◌, ◌+◌, subst, arith}
use Rattle.jsh_recognizer.specs.Machine.{Frames}
use Rattle.jsh_recognizer.specs.Recognizing.{kinds}
use Rattle.jsh_recognizer.specs.Stacks.{frames_of}
use Rattle.jsh_complete.specs.Reading.{IsBehind}
use Rattle.jsh_complete.proofs.Behind.{stops_whole, open_not_whole}
use Rattle.jsh_complete.proofs.Taken.{more_behind, stays, halts_deep, halts_refused, now_longest, still_longest}
use Rattle.jsh_complete.proofs.reading.Reader.read.Goals as goal

pub returns-in-TooDeep-clause-read : goal.returns-in-TooDeep-clause-read
returns-in-TooDeep-clause-read c =
    let before = c.loop-self.self in
    let same = stays _ (frames_of before.recognizer.stack) (frames_of c.advance.new.self.stack) c.advance.result c.advance.ensures (λ e. cc) in
    record {
      few = c.loop-self.invariant.few;
      behind = subst (λ (fs : Frames). IsBehind (kinds (take before.taken c.args.tokens.now)) fs) (sym same) c.loop-self.invariant.behind;
      longest = c.loop-self.invariant.longest;
    }

pub returns-in-TooDeep-clause-halt : goal.returns-in-TooDeep-clause-halt
returns-in-TooDeep-clause-halt c = (
  c.loop-self-test.true,
  halts_deep (frames_of c.loop-self.self.recognizer.stack) (frames_of c.advance.new.self.stack) c.advance.result c.args.tokens.now c.loop-self.self.taken _
      c.loop-self-test.true c.loop-self.invariant.behind c.advance.ensures c.in-TooDeep.is,
)

pub returns-in-Refused-clause-read : goal.returns-in-Refused-clause-read
returns-in-Refused-clause-read c =
    let before = c.loop-self.self in
    let same = stays _ (frames_of before.recognizer.stack) (frames_of c.advance.new.self.stack) c.advance.result c.advance.ensures (λ e. cc) in
    record {
      few = c.loop-self.invariant.few;
      behind = subst (λ (fs : Frames). IsBehind (kinds (take before.taken c.args.tokens.now)) fs) (sym same) c.loop-self.invariant.behind;
      longest = c.loop-self.invariant.longest;
    }

pub returns-in-Refused-clause-halt : goal.returns-in-Refused-clause-halt
returns-in-Refused-clause-halt c = (
  c.loop-self-test.true,
  halts_refused (frames_of c.loop-self.self.recognizer.stack) (frames_of c.advance.new.self.stack) c.advance.result c.args.tokens.now c.loop-self.self.taken _
      c.loop-self-test.true c.loop-self.invariant.behind c.advance.ensures c.in-Refused.is,
)

pub loop-self-preserved-then-is_whole : goal.loop-self-preserved-then-is_whole
loop-self-preserved-then-is_whole c =
    let ts = c.args.tokens.now in
    let n = c.loop-self.self.taken + 1 in
    let more = more_behind (frames_of c.loop-self.self.recognizer.stack) (frames_of c.advance.new.self.stack) c.advance.result ts c.loop-self.self.taken _
    c.loop-self-test.true c.loop-self.invariant.behind c.advance.ensures c.in-Taken.is in
    record {
      few = omega arith;
      behind = more;
      longest = now_longest ts n (stops_whole (kinds (take n ts)) more (sym c.is_whole.ensures ∙ c.if-is_whole.true));
    }

pub loop-self-preserved : goal.loop-self-preserved
loop-self-preserved c =
    let ts = c.args.tokens.now in
    let n = c.loop-self.self.taken + 1 in
    let more = more_behind (frames_of c.loop-self.self.recognizer.stack) (frames_of c.advance.new.self.stack) c.advance.result ts c.loop-self.self.taken _
    c.loop-self-test.true c.loop-self.invariant.behind c.advance.ensures c.in-Taken.is in
    record {
      few = omega arith;
      behind = more;
      longest = still_longest ts c.loop-self.self.taken c.loop-self.self.longest c.loop-self.invariant.longest
          (open_not_whole (kinds (take n ts)) more (sym c.is_whole.ensures ∙ c.if-is_whole.false));
    }
