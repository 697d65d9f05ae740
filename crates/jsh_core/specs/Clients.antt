-- How clients come and go, and what all of them lose together.
use Rattle.std.specs.Prelude.{ℕ, [], ◌∷◌, ◌++◌, length, true, false, None, Some, nat_le, if◌then◌else◌, slice_set, map}
use Rattle.jsh_snippet.specs.declared.replies.ReplyBody.TheVariants as body
use Rattle.jsh_snippet.specs.declared.replies.Refusal.TheVariants as refusal
use Rattle.jsh_snippet.specs.declared.replies.LimitKind.TheVariants as limit
use Rattle.jsh_core.specs.Limits.{most_clients}
use Rattle.jsh_core.specs.State.{State, Acted, answers, refuses}
use Rattle.jsh_core.specs.Generations.{emptied}
use Rattle.jsh_core.specs.Threads.{stop_threads}
use Rattle.jsh_core.specs.Runs.{dropped, dropped_for}

-- a further client gets the next number, up to a limit
abbrev pub enter : State → Acted
enter s = if nat_le most_clients (length s.clients) then refuses s (refusal.Limit limit.Clients most_clients)
    else record {
      state = record s {
        clients = s.clients ++ true ∷ [];
        world = record s.world { pending = s.world.pending ++ [] ∷ [] };
      };
      body = body.Entered (length s.clients);
    }

-- a client goes: its threads are stopped and its runs dropped
abbrev pub leave : State → ℕ → Acted
leave s client = record {
  state = record s {
    world = record (stop_threads (Some client) s.world) { runs = map (dropped_for client) s.world.runs };
    clients = slice_set s.clients client false;
  };
  body = body.Left;
}

-- nothing follows a close, and nothing else changes
abbrev pub close : State → Acted
close s = answers s body.Closed

-- All snippets are taken back: nothing is in force, every thread is stopped, every run dropped, every variable gone. Numbers of
-- snippets begin again at 1; those of generations, threads and runs go on.
abbrev pub reset : State → Acted
reset s = record {
  state = record s {
    book = [];
    generation = emptied s.generation;
    world = record (stop_threads None s.world) { cells = []; runs = map dropped s.world.runs };
  };
  body = body.ResetDone (length s.book);
}
