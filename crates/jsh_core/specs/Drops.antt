-- How a snippet is taken back.
use Rattle.std.specs.Prelude.{ℕ, ◌-◌, List, [], ◌∷◌, Option, None, Some, Bool, true, false, length, slice_set, filter, find, ◌==◌, option_map}
use Rattle.std.specs.Option.{option_map_or, unwrap_or}
use Rattle.std.specs.Option.{is_some}
use Rattle.jsh_tree.specs.declared.tree.Tree.{Tree}
use Rattle.jsh_snippet.specs.declared.acts.Target.{Target}
use Rattle.jsh_snippet.specs.declared.acts.Target.TheVariants as target
use Rattle.jsh_snippet.specs.declared.kinds.Kind.{Kind}
use Rattle.jsh_snippet.specs.declared.kinds.Kind.TheVariants as kind
use Rattle.jsh_snippet.specs.declared.kinds.Status.{Status}
use Rattle.jsh_snippet.specs.declared.kinds.Status.TheVariants as status
use Rattle.jsh_snippet.specs.declared.kinds.Fate.{Fate}
use Rattle.jsh_snippet.specs.declared.kinds.Fate.TheVariants as fate
use Rattle.jsh_snippet.specs.declared.records.Record.{Record}
use Rattle.jsh_snippet.specs.declared.events.Event.{Event}
use Rattle.jsh_snippet.specs.declared.replies.ReplyBody.TheVariants as body
use Rattle.jsh_snippet.specs.declared.replies.Refusal.TheVariants as refusal
use Rattle.jsh_snippet.specs.Keys.{temporary_name}
use Rattle.jsh_core.specs.declared.generation.Live.{Live}
use Rattle.jsh_core.specs.State.{State, Generation, Acted, refuses, numbered}
use Rattle.jsh_core.specs.Generations.{live_named, without}

-- the kind that a record has got at its entry
abbrev pub kind_of_record : Record → Kind
kind_of_record r = unwrap_or r.kind kind.Erroneous

-- the name of the record with this number as feedback shows it: the snippets in force are temporary variables so far
abbrev pub name_of_record : ℕ → List ℕ
name_of_record id = temporary_name id

-- the declaration of a record, where it is in force
abbrev pub live_of : Generation → ℕ → Option Live
live_of g id = find (λ (live : Live). live.id == id) g.live

-- the status of a record that may be taken back: that of its declaration, and VALID for one that declares nothing
abbrev pub status_before : Option Live → Status
status_before None = status.Valid
status_before (Some live) = live.status

-- a declaration with a link loses it
abbrev pub loses_link : Option Live → Bool
loses_link None = false
loses_link (Some live) = is_some live.given

-- the event of a record that is taken back
abbrev pub drop_event : ℕ → Option Live → Event
drop_event id live = record {
  id = id;
  name = name_of_record id;
  before = status_before live;
  after = status.Dropped;
  signature_changed = loses_link live;
  reset = None;
  cause = None;
}

-- the generation behind a drop: where the declaration isn't in force, nothing changes
abbrev pub generation_without : Generation → ℕ → Option Live → Generation
generation_without g id None = g
generation_without g id (Some live) = without g id

-- the record is taken back, and what it declares isn't in force any more
abbrev pub taken_back : State → ℕ → Record → Acted
taken_back s id r =
    let live = live_of s.generation id in
    record {
      state = record s {
        book = slice_set s.book (id - 1) (record r { fate = fate.Dropped });
        generation = generation_without s.generation id live;
      };
      body = body.Dropped id (kind_of_record r) (name_of_record id) (drop_event id live ∷ []);
    }

-- what is taken back has to be in force, or to have been done
abbrev pub drop_by_fate : State → ℕ → Record → Fate → Acted
drop_by_fate s id r fate.Live = taken_back s id r
drop_by_fate s id r fate.Done = taken_back s id r
drop_by_fate s id r other = refuses s (refusal.NotLive id other)

abbrev pub drop_found : State → ℕ → Option Record → Acted
drop_found s id None = refuses s (refusal.NoSuchSnippet id (length s.book))
drop_found s id (Some r) = drop_by_fate s id r r.fate

abbrev pub drop_id : State → ℕ → Acted
drop_id s id = drop_found s id (numbered s.book id)

-- exactly one declaration in force has to have the name
abbrev pub drop_only : State → List ℕ → List Live → Acted
drop_only s name (live ∷ []) = drop_id s live.id
drop_only s name found = refuses s (refusal.NoSuchName name (length found))

-- A snippet is taken back, by its number or by the name of what it declares.
abbrev pub drop_snippet : State → Target → Acted
drop_snippet s (target.Id id) = drop_id s id
drop_snippet s (target.Named name) = drop_only s name (live_named name s.generation)
