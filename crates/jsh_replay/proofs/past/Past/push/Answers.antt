-- What is kept goes on with the entry.
use Rattle.std.proofs.Common.{List, ◌∷◌, ◌++◌, [], ap, ◌∙◌}
use Rattle.jsh_snippet.specs.declared.acts.Entry.{Entry}
use Rattle.jsh_replay.proofs.StandingLaws.{Keeps-push}
use Rattle.jsh_replay.proofs.past.Past.push.Goals as goal

pub invariant_of-self-2 : goal.invariant_of-self-2
invariant_of-self-2 c =
    Keeps-push c.self.inside.entries.items c.push_reserved.new.entries.items c.self.inside.sources c.act_bytes.result c.self.inside.clients.items c.count_clients.new.clients.items
    c.self.inside.closed c.is_closed_by-self-inside.result c.args.entry c.self.invariant (c.push_reserved.ensures ∙ ap (λ (h : List Entry). h ++ c.args.entry ∷ []) c.reserve.ensures.items)
    c.act_bytes.ensures c.in_ok-count_clients.ensures.ok c.is_closed_by-self-inside.ensures
