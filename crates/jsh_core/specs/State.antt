-- The state of the one-thread engine.
use Rattle.std.specs.Prelude.{ℕ, ◌-◌, ◌==◌, Bool, true, List, [], ◌∷◌, Option, None, if◌then◌else◌, slice_get}
use Rattle.jsh_snippet.specs.declared.records.Record.{Record}
use Rattle.jsh_snippet.specs.declared.replies.Reply.{Reply}
use Rattle.jsh_snippet.specs.declared.replies.ReplyBody.{ReplyBody}
use Rattle.jsh_snippet.specs.declared.replies.ReplyBody.TheVariants as body
use Rattle.jsh_snippet.specs.declared.replies.Refusal.{Refusal}
use Rattle.jsh_sched.specs.declared.ThreadState.{ThreadState}
use Rattle.jsh_core.specs.declared.generation.Live.{Live}
use Rattle.jsh_core.specs.declared.world.Cell.{Cell}
use Rattle.jsh_core.specs.declared.world.Thread.{Thread}
use Rattle.jsh_core.specs.declared.world.Run.{Run}

-- what is in force: the declarations, by rising numbers of their records
pub record Generation : Type 0 where
  pub number : ℕ
  pub live : List Live

-- what snippets work on while they run
pub record World : Type 0 where
  -- the variables, in the order in which their links were given
  pub cells : List Cell
  -- for each thread, whether it can go on, and what it runs
  pub states : List ThreadState
  pub threads : List Thread
  pub runs : List Run
  -- for each client, what its threads have printed and no reply has handed over
  pub pending : List (List ℕ)

pub record State : Type 0 where
  -- the snippets that were submitted since the last reset
  pub book : List Record
  -- what is published
  pub generation : Generation
  pub world : World
  -- for each client that was numbered, whether it is still there
  pub clients : List Bool

-- a state after an act, and what is answered
pub record Acted : Type 0 where
  pub state : State
  pub body : ReplyBody

-- a state after an entry, and the reply to it
pub record Stepped : Type 0 where
  pub state : State
  pub reply : Reply

-- the engine as it opens: nothing but client 0
abbrev pub opening : State
opening = record {
  book = [];
  generation = record { number = 0; live = [] };
  world = record { cells = []; states = []; threads = []; runs = []; pending = [] ∷ [] };
  clients = true ∷ [];
}

-- the item with this number, where the first has number 1
abbrev pub numbered : {A : Type 0} → List A → ℕ → Option A
numbered items number = if number == 0 then None else slice_get items (number - 1)

-- an act that changes nothing
abbrev pub answers : State → ReplyBody → Acted
answers s what = record { state = s; body = what }

-- an act that is refused changes nothing
abbrev pub refuses : State → Refusal → Acted
refuses s why = answers s (body.Refused why)
