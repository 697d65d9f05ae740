-- The world is that before the snippet, with its variable and its run.
use Rattle.std.proofs.Common.{ap}
use Rattle.jsh_core.specs.State.{State}
use Rattle.jsh_core.proofs.snippets.add_snippet.Goals as goal

pub returns-clause-world : goal.returns-clause-world
returns-clause-world c = c.add_run-run.ensures.sound (record {
  states = rw (ap (λ (s : State). s.world.states) c.reserve_snippet.ensures.same, ap (λ (s : State). s.world.threads) c.reserve_snippet.ensures.same) c.requires.sound.world.states;
  alive = rw (ap (λ (s : State). s.world.states) c.reserve_snippet.ensures.same, c.reserve_snippet.ensures.alive) c.requires.sound.world.alive;
})
