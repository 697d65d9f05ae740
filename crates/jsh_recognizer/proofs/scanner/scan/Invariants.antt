-- The tokens so far lead to the recognizer's frames.
use Rattle.std.proofs.Common.{take}
use Rattle.jsh_recognizer.specs.Machine.{Runs}
use Rattle.jsh_recognizer.specs.Stacks.{frames_of}
use Rattle.jsh_recognizer.specs.Recognizing.{first, kinds}
use Rattle.jsh_recognizer.proofs.scanner.scan.Given as goal

abbrev pub invariant-loop-read : goal.invariant-loop-read
invariant-loop-read l = Runs 256 (first l.fn.start) (kinds (take l.read l.tokens)) (frames_of l.recognizer.stack)
