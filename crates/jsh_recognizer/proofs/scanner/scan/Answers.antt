-- Each token that is taken leads on; the first that isn't is the one behind those that were read.
use Rattle.std.proofs.Common.{[], refl, sym, ◌∙◌, subst, arith}
use Rattle.jsh_recognizer.specs.Machine.{Frames, Runs, at_end}
use Rattle.jsh_recognizer.specs.Stacks.{frames_of}
use Rattle.jsh_recognizer.specs.Recognizing.{first}
use Rattle.jsh_recognizer.proofs.Stopped.{deep_end, all_taken, whole_end, open_end, stopped}
use Rattle.jsh_recognizer.proofs.Stepping.{taken-more, refused-end}
use Rattle.jsh_recognizer.proofs.scanner.scan.Goals as goal

pub loop-read-init : goal.loop-read-init
loop-read-init c =
    let P : Frames → Type 0 = λ x. Runs 256 (first c.args.start) [] x in
    subst P (sym c.new-recognizer.ensures) at_end

pub loop-read-preserved : goal.loop-read-preserved
loop-read-preserved c =
    taken-more 256 (first c.args.start) (frames_of c.loop-read.recognizer.stack) (frames_of c.advance.new.self.stack) c.advance.result c.args.tokens.now
    c.loop-read.read _ (omega arith) c.in-Taken.is c.advance.ensures c.loop-read.invariant

pub returns-in-Refused-clause-runs : goal.returns-in-Refused-clause-runs
returns-in-Refused-clause-runs c = (
  frames_of c.loop-read.recognizer.stack,
  c.loop-read.invariant,
  refused-end 256 (frames_of c.loop-read.recognizer.stack) (frames_of c.advance.new.self.stack) c.advance.result c.wanted.result c.args.tokens.now
      c.loop-read.read _ (omega arith) c.in-Refused.is c.advance.ensures c.wanted.ensures,
)

pub returns-in-Refused-clause-stop : goal.returns-in-Refused-clause-stop
returns-in-Refused-clause-stop c = let h = returns-in-Refused-clause-runs c in stopped c.args.start 256 c.args.tokens.now _ h.0 h.1 h.2

pub returns-in-TooDeep-clause-runs : goal.returns-in-TooDeep-clause-runs
returns-in-TooDeep-clause-runs c = (
  frames_of c.loop-read.recognizer.stack,
  c.loop-read.invariant,
  deep_end 256 (frames_of c.loop-read.recognizer.stack) (frames_of c.advance.new.self.stack) c.advance.result c.args.tokens.now c.loop-read.read _
      (omega arith) c.in-TooDeep.is c.advance.ensures,
)

pub returns-in-TooDeep-clause-stop : goal.returns-in-TooDeep-clause-stop
returns-in-TooDeep-clause-stop c = let h = returns-in-TooDeep-clause-runs c in stopped c.args.start 256 c.args.tokens.now _ h.0 h.1 h.2

pub returns-then-is_whole-clause-runs : goal.returns-then-is_whole-clause-runs
returns-then-is_whole-clause-runs c = (
  frames_of c.loop-read.recognizer.stack,
  all_taken 256 (first c.args.start) (frames_of c.loop-read.recognizer.stack) c.args.tokens.now c.loop-read.read (omega (arith, c.loop-read-test.false))
      c.loop-read.invariant,
  whole_end 256 (frames_of c.loop-read.recognizer.stack) c.args.tokens.now _ (sym c.is_whole.ensures ∙ c.if-is_whole.true) refl,
)

pub returns-then-is_whole-clause-stop : goal.returns-then-is_whole-clause-stop
returns-then-is_whole-clause-stop c = let h = returns-then-is_whole-clause-runs c in stopped c.args.start 256 c.args.tokens.now _ h.0 h.1 h.2

pub returns-else-is_whole-clause-runs : goal.returns-else-is_whole-clause-runs
returns-else-is_whole-clause-runs c = (
  frames_of c.loop-read.recognizer.stack,
  all_taken 256 (first c.args.start) (frames_of c.loop-read.recognizer.stack) c.args.tokens.now c.loop-read.read (omega (arith, c.loop-read-test.false))
      c.loop-read.invariant,
  open_end 256 (frames_of c.loop-read.recognizer.stack) c.args.tokens.now _ _ (sym c.is_whole.ensures ∙ c.if-is_whole.false)
      c.wanted-else-is_whole.ensures refl,
)

pub returns-else-is_whole-clause-stop : goal.returns-else-is_whole-clause-stop
returns-else-is_whole-clause-stop c = let h = returns-else-is_whole-clause-runs c in stopped c.args.start 256 c.args.tokens.now _ h.0 h.1 h.2
