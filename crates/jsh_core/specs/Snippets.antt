-- What a snippet is, and what its submission changes.
use Rattle.std.specs.Prelude.{ℕ, ◌+◌, List, [], ◌∷◌, ◌++◌, Option, None, Some, length, true, false, if◌then◌else◌, nat_le, pos, codes, option_map}
use Rattle.std.specs.Option.{option_map_or, option_to_list}
use Rattle.jsh_tree.specs.declared.diagnostic.Diagnostic.{Diagnostic}
use Rattle.jsh_tree.specs.declared.key.Key.{Key}
use Rattle.jsh_tree.specs.declared.key.Key.TheVariants as key
use Rattle.jsh_tree.specs.declared.key.Link.{Link}
use Rattle.jsh_text.specs.declared.value.Value.TheVariants as value
use Rattle.jsh_snippet.specs.declared.kinds.Kind.TheVariants as kind
use Rattle.jsh_snippet.specs.declared.kinds.Subkind.TheVariants as subkind
use Rattle.jsh_snippet.specs.declared.kinds.Status.TheVariants as status
use Rattle.jsh_snippet.specs.declared.kinds.Fate.TheVariants as fate
use Rattle.jsh_snippet.specs.declared.records.Record.{Record}
use Rattle.jsh_snippet.specs.declared.events.Event.{Event}
use Rattle.jsh_snippet.specs.declared.replies.Submitted.{Submitted}
use Rattle.jsh_snippet.specs.declared.replies.ReplyBody.{ReplyBody}
use Rattle.jsh_snippet.specs.declared.replies.ReplyBody.TheVariants as body
use Rattle.jsh_snippet.specs.declared.replies.Refusal.TheVariants as refusal
use Rattle.jsh_snippet.specs.declared.replies.LimitKind.TheVariants as limit
use Rattle.jsh_snippet.specs.Keys.{temporary_name}
use Rattle.jsh_sched.specs.declared.ThreadState.TheVariants as thread_state
use Rattle.jsh_sum.specs.declared.sums.Sum.{Sum}
use Rattle.jsh_verdict.specs.declared.verdict.Verdict.{Verdict}
use Rattle.jsh_verdict.specs.declared.verdict.Verdict.TheVariants.{Accepted, Rejected}
use Rattle.jsh_verdict.specs.Verdict.{tree_of, verdict}
use Rattle.jsh_core.specs.declared.generation.Live.{Live}
use Rattle.jsh_core.specs.declared.generation.Plan.{Plan}
use Rattle.jsh_core.specs.declared.world.Body.{Body}
use Rattle.jsh_core.specs.declared.world.Cell.{Cell}
use Rattle.jsh_core.specs.declared.world.Thread.{Thread}
use Rattle.jsh_core.specs.declared.world.Run.{Run}
use Rattle.jsh_core.specs.Limits.{most_records, most_threads}
use Rattle.jsh_core.specs.State.{State, World, Generation, Acted, refuses}
use Rattle.jsh_core.specs.Generations.{with_live}
use Rattle.jsh_core.specs.Threads.{alive_count}

-- the record of a snippet that is accepted, a temporary variable of type int
abbrev pub accepted_record : ℕ → List ℕ → Record
accepted_record id source = record {
  id = id;
  source = source;
  tree = tree_of source;
  fixed = Some (record { name = codes "int"; dims = 0 });
  kind = Some kind.Var;
  fate = fate.Live;
}

-- the record of a snippet that is rejected
abbrev pub rejected_record : ℕ → List ℕ → Record
rejected_record id source =
    record { id = id; source = source; tree = tree_of source; fixed = None; kind = Some kind.Erroneous; fate = fate.Rejected }

-- the snippet becomes valid, and its variable begins at the default value
abbrev pub accepted_event : ℕ → Event
accepted_event id = record {
  id = id;
  name = temporary_name id;
  before = status.Nonexistent;
  after = status.Valid;
  signature_changed = true;
  reset = Some (codes "0");
  cause = None;
}

abbrev pub rejected_event : ℕ → Event
rejected_event id = record {
  id = id;
  name = [];
  before = status.Nonexistent;
  after = status.Rejected;
  signature_changed = false;
  reset = None;
  cause = None;
}

-- the key of a temporary variable
abbrev pub temporary_key : ℕ → Key
temporary_key id = key.OfVar (temporary_name id)

-- the link that the next generation gives to a temporary variable
abbrev pub new_link : Generation → ℕ → Link
new_link g id = record { key = temporary_key id; generation = g.number + 1 }

-- a sum is the temporary variable of its record's number, whose run sets it
abbrev pub accepted_plan : Generation → ℕ → List ℕ → Sum → Plan
accepted_plan g id source sum = record {
  snippet = accepted_record id source;
  live = Some (record { id = id; key = temporary_key id; status = status.Valid; given = Some (g.number + 1) });
  made = Some (record { link = new_link g id; value = value.Int (pos 0) });
  run = Some (record { variable = new_link g id; sum = sum });
  kind = kind.Var;
  subkind = subkind.TempVarExpression;
  name = temporary_name id;
  events = accepted_event id ∷ [];
  ignored = [];
  diagnostics = [];
  unresolved = [];
  value = None;
}

-- a rejected snippet leaves a record and nothing else
abbrev pub rejected_plan : ℕ → List ℕ → List Diagnostic → Plan
rejected_plan id source diagnostics = record {
  snippet = rejected_record id source;
  live = None;
  made = None;
  run = None;
  kind = kind.Erroneous;
  subkind = subkind.Unknown;
  name = [];
  events = rejected_event id ∷ [];
  ignored = [];
  diagnostics = diagnostics;
  unresolved = [];
  value = None;
}

abbrev pub judged_plan : Generation → ℕ → List ℕ → Verdict → Plan
judged_plan g id source (Accepted sum) = accepted_plan g id source sum
judged_plan g id source (Rejected diagnostics) = rejected_plan id source diagnostics

-- what a source comes to that is handed in on this generation as the snippet with this number
abbrev pub planned : Generation → ℕ → List ℕ → Plan
planned g id source = judged_plan g id source (verdict source)

-- a body that was entered, without arguments and not yet answered anything
abbrev pub main_thread : ℕ → Body → Thread
main_thread owner what = record {
  owner = owner;
  steps = 0;
  frames = record { body = what; args = []; answers = [] } ∷ [];
  end = None;
}

-- a client's snippet gets a run, whose main thread is new and is ready to evaluate this
abbrev pub with_run : World → ℕ → ℕ → Body → World
with_run w client snippet what = record w {
  states = w.states ++ thread_state.Ready ∷ [];
  threads = w.threads ++ main_thread client what ∷ [];
  runs = w.runs ++ record { owner = client; main = length w.threads + 1; snippet = snippet; stopper = None; gone = false } ∷ [];
}

abbrev pub with_run_of : World → ℕ → ℕ → Option Body → World
with_run_of w client snippet None = w
with_run_of w client snippet (Some what) = with_run w client snippet what

-- the world with a variable that is made
abbrev pub with_cell : World → Option Cell → World
with_cell w made = record w { cells = w.cells ++ option_to_list made }

-- the generation behind a snippet
abbrev pub next_generation : Generation → Option Live → Generation
next_generation g live = option_map_or (with_live g) live g

-- what a client is answered whose snippet comes to this, with the number of its run
abbrev pub submitted_reply : Plan → Option ℕ → Submitted
submitted_reply plan run = record {
  id = plan.snippet.id;
  kind = plan.kind;
  subkind = plan.subkind;
  name = plan.name;
  events = plan.events;
  ignored = plan.ignored;
  diagnostics = plan.diagnostics;
  unresolved = plan.unresolved;
  run = run;
  value = plan.value;
}

-- A snippet of a client stands: it has its record, what it declares is published, and it has its run.
abbrev pub published : State → ℕ → Plan → Acted
published s client plan = record {
  state = record s {
    book = s.book ++ plan.snippet ∷ [];
    generation = next_generation s.generation plan.live;
    world = with_run_of (with_cell s.world plan.made) client plan.snippet.id plan.run;
  };
  body = body.Submitted (submitted_reply plan (option_map (λ (what : Body). length s.world.runs + 1) plan.run));
}

-- a snippet that is evaluated wants a thread, and there is a limit of alive ones
abbrev pub published_below_limit : State → ℕ → Plan → Acted
published_below_limit s client plan = by plan.run
  where
    by : Option Body → Acted
    by None = published s client plan
    by (Some what) =
        if nat_le most_threads (alive_count s.world) then refuses s (refusal.Limit limit.Threads most_threads)
        else published s client plan

-- A snippet that is handed in gets the next number, below a limit of records.
abbrev pub submitted : State → ℕ → List ℕ → Acted
submitted s client source =
    if nat_le most_records (length s.book) then refuses s (refusal.Limit limit.Records most_records)
    else published_below_limit s client (planned s.generation (length s.book + 1) source)

-- the run that a submitted snippet has
abbrev pub run_of : ReplyBody → Option ℕ
run_of (body.Submitted what) = what.run
run_of _ = None
