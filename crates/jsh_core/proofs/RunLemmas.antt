-- The alive threads from one on.
use Rattle.std.proofs.Common.{ℕ, List, map, filter}
use Rattle.std.specs.List.{enumerate_from}
use Rattle.jsh_sched.specs.declared.ThreadState.{ThreadState}
use Rattle.jsh_sched.specs.ThreadState.{is_alive}

-- the numbers of the alive threads, where the first state is that of this thread
abbrev pub alive_from : ℕ → List ThreadState → List ℕ
alive_from first states = map (λ numbered. numbered.0) (filter (λ numbered. is_alive numbered.1) (enumerate_from first states))
