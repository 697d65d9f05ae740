-- The declarations that are left.
use Rattle.std.proofs.Common.{◌≡◌, ◌==◌, ◌∙◌, ap, sym, true, filter, ◌+◌, List, rules}
use Rattle.std.specs.Prelude.{not}
use Rattle.std.specs.Option.{is_some}
use Rattle.std.proofs.lemmas.Fn.{filter_same}
use Rattle.jsh_core.specs.declared.generation.Live.{Live}
use Rattle.jsh_core.specs.State.{Generation}
use Rattle.jsh_core.specs.Drops.{live_of}
use Rattle.jsh_core.specs.Parts.{generation_of}
use Rattle.jsh_core.proofs.DropLemmas.{without_some}
use Rattle.jsh_core.proofs.drops.remove_live.Goals as goal

pub returns-clause-after : goal.returns-clause-after
returns-clause-after c =
    let kept : c.retain.new.self.items ≡ filter (λ (live : Live). not (live.id == c.args.id)) c.args.generation.now.live.items =
    filter_same _ _ _ (λ x b f' k. search rules) _ _ c.retain.ensures.filtered in
    let there : is_some (live_of (generation_of c.args.generation.now) c.args.id) ≡ true = cc in
    ap (λ (live : List Live). let g : Generation = record { number = c.args.generation.now.number + 1; live = live } in g) kept
    ∙ sym (without_some (generation_of c.args.generation.now) c.args.id (live_of (generation_of c.args.generation.now) c.args.id) there)
