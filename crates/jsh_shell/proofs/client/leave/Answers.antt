-- A leave is always done, and what is said to it is written unless a write has failed or memory was short.
use Rattle.std.proofs.Common.{◌≡◌, List, ℕ, ap, sym, subst, ◌∙◌, refl, Err}
use Rattle.std.specs.Io.KnownBytes.{append_known}
use Rattle.jsh_snippet.specs.declared.acts.Entry.{Entry}
use Rattle.jsh_snippet.specs.declared.replies.Reply.{Reply}
use Rattle.jsh_snippet.specs.declared.acts.Act.TheVariants as act
use Rattle.jsh_render.specs.Texts.{shown}
use Rattle.jsh_shell.specs.Journal.{entry_of}
use Rattle.jsh_shell.specs.Serving.{WritesPart, farewell}
use Rattle.jsh_shell.specs.Serving.TakesLeave.{unheard, heard}
use Rattle.jsh_shell.proofs.Walk.{grown-entry, same-entry, writes-part}
use Rattle.jsh_shell.proofs.RunLemmas.{leave-breaks}
use Rattle.jsh_shell.proofs.client.leave.Goals as goal

pub dismiss-reply-requires : goal.dismiss-reply-requires
dismiss-reply-requires g c = c.requires

pub returns-then-is_unheard-clause-grows : goal.returns-then-is_unheard-clause-grows
returns-then-is_unheard-clause-grows g c = c.dismiss-reply.ensures.grows

pub returns-then-is_unheard-clause-written : goal.returns-then-is_unheard-clause-written
returns-then-is_unheard-clause-written g c = unheard (sym c.is_unheard.ensures ∙ c.if-is_unheard.true) refl refl refl

pub returns-then-is_unheard-clause-stream : goal.returns-then-is_unheard-clause-stream
returns-then-is_unheard-clause-stream g c = refl

pub entry_at-requires : goal.entry_at-requires
entry_at-requires g c = grown-entry _ _ _ _ c.dismiss-reply.ensures.grows c.len-place.ensures.entries

pub returns-clause-grows : goal.returns-clause-grows
returns-clause-grows g c = c.dismiss-reply.ensures.grows

pub returns-clause-written : goal.returns-clause-written
returns-clause-written g c =
    let said : shown c.entry_at.result.now c.dismiss-reply.result ≡ farewell c.args.core.now c.args.client
    = ap (λ (e : Entry). shown e c.dismiss-reply.result) (same-entry _ _ (entry_of c.args.client act.Leave) _ _ c.dismiss-reply.ensures.grows c.len-place.ensures.entries c.entry_at.ensures)
    ∙ ap (λ (r : Reply). shown (entry_of c.args.client act.Leave) r) c.dismiss-reply.ensures.reply in
    heard (sym c.is_unheard.ensures ∙ c.if-is_unheard.false) refl (c.in-Ok.ensures.ok ∙ ap (λ (t : List ℕ). append_known (g.O.Sink.held c.args.sink.now) t) said) c.in-Ok.ensures.counts

pub returns-clause-stream : goal.returns-clause-stream
returns-clause-stream g c = c.in-Ok.ensures.stream

pub returns-in-Err-clause-grows : goal.returns-in-Err-clause-grows
returns-in-Err-clause-grows g c = c.dismiss-reply.ensures.grows

pub returns-in-Err-clause-written : goal.returns-in-Err-clause-written
returns-in-Err-clause-written g c =
    let said : shown c.entry_at.result.now c.dismiss-reply.result ≡ farewell c.args.core.now c.args.client
    = ap (λ (e : Entry). shown e c.dismiss-reply.result) (same-entry _ _ (entry_of c.args.client act.Leave) _ _ c.dismiss-reply.ensures.grows c.len-place.ensures.entries c.entry_at.ensures)
    ∙ ap (λ (r : Reply). shown (entry_of c.args.client act.Leave) r) c.dismiss-reply.ensures.reply in
    leave-breaks c.in-Err.why _ _ _ _ _ _ _ (λ limit. c.in-Err.ensures.limit (ap Err limit)) (sym c.is_unheard.ensures ∙ c.if-is_unheard.false) c.status.ensures
    (writes-part _ _ _ _ said c.in-Err.ensures.err) c.in-Err.ensures.counts

pub returns-in-Err-clause-stream : goal.returns-in-Err-clause-stream
returns-in-Err-clause-stream g c = c.in-Err.ensures.stream
