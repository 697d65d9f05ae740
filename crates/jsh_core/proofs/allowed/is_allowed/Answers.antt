-- An entry may come exactly where its client is there, nothing is closed, and the client may do the act.
use Rattle.std.proofs.Common.{ap, sym, not, ◌∙◌}
use Rattle.jsh_core.proofs.AllowedLemmas.{allowed-open, barred-absent, barred-closed, clash}
use Rattle.jsh_core.proofs.allowed.is_allowed.Goals as goal
use Rattle.jsh_core.proofs.allowed.is_allowed.Goals.{then-is_present, else-is_present}

pub returns-then-is_none : goal.returns-then-is_none
returns-then-is_none c =
    elim c.if-is_present.branch [
      | then-is_present w ↦ allowed-open c.args.log.now c.args.parts.now c.args.entry.now c.is_present.result c.may_do.result c.requires c.is_present.ensures c.may_do.ensures
          w.if-is_present.true (w.is_none.ensures ∙ ap not (sym w.value-is ∙ c.if-is_none.true))
      | else-is_present w ↦ absurd (clash c.if-is_present.value c.if-is_none.true (w.value-is ∙ w.if-is_present.false))
    ]

pub returns-else-is_none : goal.returns-else-is_none
returns-else-is_none c =
    elim c.if-is_present.branch [
      | then-is_present w ↦ barred-closed c.args.log.now c.args.parts.now c.args.entry.now c.if-is_present.value c.requires
          (w.is_none.ensures ∙ ap not (sym w.value-is ∙ c.if-is_none.false)) c.if-is_none.false
      | else-is_present w ↦ barred-absent c.args.log.now c.args.parts.now c.args.entry.now c.is_present.result c.if-is_present.value c.requires c.is_present.ensures
          w.if-is_present.false c.if-is_none.false
    ]
