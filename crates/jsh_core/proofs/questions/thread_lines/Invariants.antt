-- The lines so far, and those of the threads that are left.
use Rattle.std.proofs.Common.{◌≡◌, ◌+◌, ◌++◌, drop}
use Rattle.jsh_core.specs.Questions.{thread_lines_from}
use Rattle.jsh_core.proofs.questions.thread_lines.Given as goal

abbrev pub invariant-loop-i : goal.invariant-loop-i
invariant-loop-i l =
    thread_lines_from 1 l.states l.threads ≡ l.lines.items ++ thread_lines_from (l.i + 1) (drop l.i l.states) (drop l.i l.threads)
