use Rattle.std.proofs.Common.{◌≡◌, ◌++◌, take, flat_map}
use Rattle.jsh_render.specs.Events.{event_line}
use Rattle.jsh_render.proofs.events.push_others.Given as goal

abbrev pub invariant-loop-event : goal.invariant-loop-event
invariant-loop-event l = l.bytes.items ≡ l.initial.bytes.items ++ flat_map event_line (take l.event-index l.events)
