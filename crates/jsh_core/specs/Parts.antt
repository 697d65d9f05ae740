-- What the engine keeps, and the state that this stands for.
use Rattle.std.specs.Prelude.{◌≡◌, ℕ, ◌*◌, ◌≤◌, List, length}
use Rattle.std.specs.List.{All, count_by}
use Rattle.jsh_sched.specs.ThreadState.{is_alive}
use Rattle.jsh_core.specs.declared.world.Thread.{Thread}
use Rattle.jsh_core.specs.declared.parts.GenerationParts.{GenerationParts}
use Rattle.jsh_core.specs.declared.parts.WorldParts.{WorldParts}
use Rattle.jsh_core.specs.declared.parts.Parts.{Parts}
use Rattle.jsh_core.specs.Limits.{most_clients, most_records, most_steps}
use Rattle.jsh_core.specs.State.{State, Generation, World}

abbrev pub generation_of : GenerationParts → Generation
generation_of g = record { number = g.number; live = g.live.items }

abbrev pub world_of : WorldParts → World
world_of w = record {
  cells = w.cells.items;
  states = w.states.items;
  threads = w.threads.items;
  runs = w.runs.items;
  pending = w.pending.items;
}

abbrev pub state_from : Parts → State
state_from p =
    record { book = p.book.items; generation = generation_of p.generation; world = world_of p.world; clients = p.clients.items }

-- each thread has a state, and the living are counted
pub record IsWorld (w : WorldParts) : Type 0 where
  pub states : length w.states.items ≡ length w.threads.items
  pub alive : w.alive ≡ count_by is_alive w.states.items

-- the parts fit together and keep to their limits
pub record IsSound (p : Parts) : Type 0 where
  pub world : IsWorld p.world
  pub book : length p.book.items ≤ most_records
  pub clients : length p.clients.items ≤ most_clients
  pub pending : length p.world.pending.items ≡ length p.clients.items
  -- each declaration in force has a record of its own
  pub live : length p.generation.live.items ≤ length p.book.items

-- no thread has done more steps than this
pub record StepsAtMost (bound : ℕ) (threads : List Thread) : Type 0 where
  pub each : All (λ (t : Thread). t.steps ≤ bound) threads

-- what so many entries can have come to at most
pub record IsWithin (entries : ℕ) (p : Parts) : Type 0 where
  pub generation : p.generation.number ≤ entries
  pub threads : length p.world.threads.items ≤ entries
  pub runs : length p.world.runs.items ≤ entries
  pub steps : StepsAtMost (most_steps * entries) p.world.threads.items
