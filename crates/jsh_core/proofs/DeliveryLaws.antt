-- A step differs from its act by the output that its reply hands over, and by nothing else.
use Rattle.std.proofs.Common.{◌≡◌, ℕ, Bool, true, false, [], set, length, length-set, refl, cond}
use Rattle.jsh_snippet.specs.declared.acts.Act.{Act}
use Rattle.jsh_snippet.specs.declared.acts.Act.TheVariants as act
use Rattle.jsh_snippet.specs.declared.acts.Entry.{Entry}
use Rattle.jsh_snippet.specs.declared.acts.Question.{Question}
use Rattle.jsh_core.specs.State.{State, Acted, Stepped}
use Rattle.jsh_core.specs.Step.{delivered, hands_over, pending_of, step}

-- a client's entry
abbrev pub by : ℕ → Act → Entry
by client what = record { client = client; act = what }

-- nothing but pending output differs between an act and its step
pub record IsDelivered (acted : Acted) (after : Stepped) : Type 0 where
  pub book : after.state.book ≡ acted.state.book
  pub generation : after.state.generation ≡ acted.state.generation
  pub clients : after.state.clients ≡ acted.state.clients
  pub cells : after.state.world.cells ≡ acted.state.world.cells
  pub states : after.state.world.states ≡ acted.state.world.states
  pub threads : after.state.world.threads ≡ acted.state.world.threads
  pub runs : after.state.world.runs ≡ acted.state.world.runs
  pub body : after.reply.body ≡ acted.body
  pub pending : length after.state.world.pending ≡ length acted.state.world.pending

-- the reply with what the client's threads have printed
abbrev pub handed : ℕ → Acted → Stepped
handed client acted = record {
  state = record acted.state { world = record acted.state.world { pending = set acted.state.world.pending client [] } };
  reply = record { output = pending_of acted.state.world client; body = acted.body };
}

-- the reply without it
abbrev pub withheld : Acted → Stepped
withheld acted = record { state = acted.state; reply = record { output = []; body = acted.body } }

pub delivers : (client : ℕ) (acted : Acted) → IsDelivered acted (delivered client acted)
delivers client acted = from (hands_over acted.body)
  where
    from : (over : Bool) → IsDelivered acted (cond over (handed client acted) (withheld acted))
    from true = record {
      book = refl;
      generation = refl;
      clients = refl;
      cells = refl;
      states = refl;
      threads = refl;
      runs = refl;
      body = refl;
      pending = length-set acted.state.world.pending client [];
    }
    from false = record {
      book = refl;
      generation = refl;
      clients = refl;
      cells = refl;
      states = refl;
      threads = refl;
      runs = refl;
      body = refl;
      pending = refl;
    }

-- where nothing is handed over, the state is that of the act
pub delivered-withheld : (client : ℕ) (acted : Acted) → hands_over acted.body ≡ false → (delivered client acted).state ≡ acted.state
delivered-withheld client acted none = from (hands_over acted.body) none
  where
    from : (over : Bool) → over ≡ false → (cond over (handed client acted) (withheld acted)).state ≡ acted.state
    from true e = cc
    from false e = refl

-- only pending output differs
pub record IsQuiet (s after : State) : Type 0 where
  pub book : after.book ≡ s.book
  pub generation : after.generation ≡ s.generation
  pub clients : after.clients ≡ s.clients
  pub cells : after.world.cells ≡ s.world.cells
  pub states : after.world.states ≡ s.world.states
  pub threads : after.world.threads ≡ s.world.threads
  pub runs : after.world.runs ≡ s.world.runs

pub ask-quiet : (s : State) (client : ℕ) (what : Question) → IsQuiet s (step s (by client (act.Ask what))).state
ask-quiet s client what =
    record { book = refl; generation = refl; clients = refl; cells = refl; states = refl; threads = refl; runs = refl }

pub close-quiet : (s : State) (client : ℕ) → IsQuiet s (step s (by client act.Close)).state
close-quiet s client =
    record { book = refl; generation = refl; clients = refl; cells = refl; states = refl; threads = refl; runs = refl }
