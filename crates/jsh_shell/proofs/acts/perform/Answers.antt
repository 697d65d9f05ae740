-- The entry is kept as it was handed in, since it is no turn.
use Rattle.std.proofs.Common.{◌≡◌, ◌∷◌, ◌++◌, [], List, ap, sym, subst, ◌∙◌, inl, inr, refl, Err}
use Rattle.jsh_snippet.specs.declared.acts.Entry.{Entry}
use Rattle.jsh_render.specs.Texts.{shown}
use Rattle.std.specs.Io.KnownBytes.{append_known}
use Rattle.jsh_shell.specs.Serving.{IsOpen}
use Rattle.jsh_shell.proofs.Walk.{cut_short-quiet, kept-quiet, grown-entry, open-push, same-entry, writes-part}
use Rattle.jsh_shell.proofs.acts.perform.Goals as goal

pub apply-requires : goal.apply-requires
apply-requires g c = record { present = c.requires.open.present; «open» = c.requires.open.«open»; may = c.requires.may }

pub returns-in-Err-clause-open : goal.returns-in-Err-clause-open
returns-in-Err-clause-open g c = subst (λ (h : List Entry). IsOpen c.args.entry.client h) (sym (cut_short-quiet _ _ _ c.requires.quiet c.in-Err.ensures.err)) c.requires.open

pub entry_at-requires : goal.entry_at-requires
entry_at-requires g c = grown-entry _ _ _ _ (c.in-Ok.ensures.history ∙ ap (λ (e : Entry). c.args.core.now ++ e ∷ []) (kept-quiet c.args.entry c.in-Ok.reply c.requires.quiet)) c.len-place.ensures.entries

pub returns-then-is_limit-clause-err : goal.returns-then-is_limit-clause-err
returns-then-is_limit-clause-err g c =
    let grows : c.apply.new.self ≡ c.args.core.now ++ c.args.entry ∷ [] = c.in-Ok.ensures.history ∙ ap (λ (e : Entry). c.args.core.now ++ e ∷ []) (kept-quiet c.args.entry c.in-Ok.reply c.requires.quiet) in
    inr (inr (
      (
        c.in-Ok.reply,
        record {
          reply = c.in-Ok.ensures.reply;
          grows = grows;
          written = c.in-Ok-write_shown.ensures.ok ∙ ap (λ (e : Entry). append_known (g.O.Sink.held c.args.sink.now) (shown e c.in-Ok.reply)) (same-entry _ _ _ _ _ grows c.len-place.ensures.entries c.entry_at.ensures);
        },
        sym c.is_limit.ensures ∙ c.if-is_limit.true,
      ),
      refl,
    ))

pub returns-then-is_limit-clause-open : goal.returns-then-is_limit-clause-open
returns-then-is_limit-clause-open g c =
    open-push _ _ _ c.args.entry c.requires.open c.requires.stays (c.in-Ok.ensures.history ∙ ap (λ (e : Entry). c.args.core.now ++ e ∷ []) (kept-quiet c.args.entry c.in-Ok.reply c.requires.quiet))

pub returns-else-is_limit-clause-ok : goal.returns-else-is_limit-clause-ok
returns-else-is_limit-clause-ok g c =
    let grows : c.apply.new.self ≡ c.args.core.now ++ c.args.entry ∷ [] = c.in-Ok.ensures.history ∙ ap (λ (e : Entry). c.args.core.now ++ e ∷ []) (kept-quiet c.args.entry c.in-Ok.reply c.requires.quiet) in
    record {
      reply = c.in-Ok.ensures.reply;
      grows = grows;
      written = c.in-Ok-write_shown.ensures.ok ∙ ap (λ (e : Entry). append_known (g.O.Sink.held c.args.sink.now) (shown e c.in-Ok.reply)) (same-entry _ _ _ _ _ grows c.len-place.ensures.entries c.entry_at.ensures);
    }

pub returns-else-is_limit-clause-open : goal.returns-else-is_limit-clause-open
returns-else-is_limit-clause-open g c =
    open-push _ _ _ c.args.entry c.requires.open c.requires.stays (c.in-Ok.ensures.history ∙ ap (λ (e : Entry). c.args.core.now ++ e ∷ []) (kept-quiet c.args.entry c.in-Ok.reply c.requires.quiet))

pub returns-in-Err-write_shown-clause-err : goal.returns-in-Err-write_shown-clause-err
returns-in-Err-write_shown-clause-err g c =
    let grows : c.apply.new.self ≡ c.args.core.now ++ c.args.entry ∷ [] = c.in-Ok.ensures.history ∙ ap (λ (e : Entry). c.args.core.now ++ e ∷ []) (kept-quiet c.args.entry c.in-Ok.reply c.requires.quiet) in
    inr (inl (
      record { grows = grows; part = writes-part _ _ _ _ (ap (λ (e : Entry). shown e c.in-Ok.reply) (same-entry _ _ _ _ _ grows c.len-place.ensures.entries c.entry_at.ensures) ∙ ap (shown c.args.entry) c.in-Ok.ensures.reply) c.in-Err-write_shown.ensures.err },
      λ limit. c.in-Err-write_shown.ensures.limit (ap Err limit),
    ))

pub returns-in-Err-write_shown-clause-open : goal.returns-in-Err-write_shown-clause-open
returns-in-Err-write_shown-clause-open g c =
    open-push _ _ _ c.args.entry c.requires.open c.requires.stays (c.in-Ok.ensures.history ∙ ap (λ (e : Entry). c.args.core.now ++ e ∷ []) (kept-quiet c.args.entry c.in-Ok.reply c.requires.quiet))
