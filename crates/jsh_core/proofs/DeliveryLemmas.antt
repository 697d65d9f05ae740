-- What a reply hands over changes nothing else.
use Rattle.std.proofs.Common.{◌≡◌, ℕ, ◌+◌, ◌≤◌, Bool, true, false, List, [], length, refl, ap, sym, ◌∙◌, length-set}
use Rattle.jsh_snippet.specs.declared.acts.Act.{Act}
use Rattle.jsh_snippet.specs.declared.acts.Act.TheVariants as act
use Rattle.jsh_snippet.specs.declared.acts.Entry.{Entry}
use Rattle.jsh_snippet.specs.declared.replies.Reply.{Reply}
use Rattle.jsh_snippet.specs.declared.replies.ReplyBody.{ReplyBody}
use Rattle.jsh_core.specs.declared.parts.Parts.{Parts}
use Rattle.jsh_core.specs.State.{State, Acted, Stepped}
use Rattle.jsh_core.specs.Parts.{state_from, IsSound, IsWithin}
use Rattle.jsh_core.specs.Acts.{entries_with, IsDone}
use Rattle.jsh_core.specs.Step.{act_step, delivered, hands_over, step}

-- a reply has the answer of its act
pub delivered-body : (client : ℕ) (acted : Acted) → (delivered client acted).reply.body ≡ acted.body
delivered-body client acted = from (hands_over acted.body) refl
  where
    from : (over : Bool) → hands_over acted.body ≡ over → (delivered client acted).reply.body ≡ acted.body
    from true e = rw e refl
    from false e = rw e refl

-- an act is done and replied to: what is kept then stands for the state behind its entry
pub record IsReplied (before after : Parts) (client : ℕ) (what : Act) (reply : Reply) : Type 0 where
  pub step : record { state = state_from after; reply = reply } ≡ step (state_from before) (record { client = client; act = what })
  pub sound : IsSound after
  pub within : (entries : ℕ) → IsWithin entries before → IsWithin (entries_with entries what) after

pub replied-done : (before between after : Parts) (client : ℕ) (what : Act) (answered : ReplyBody) (reply : Reply) → IsDone before between client what answered →
    record { state = state_from after; reply = reply } ≡ delivered client (record { state = state_from between; body = answered }) → IsSound after →
    ((entries : ℕ) → IsWithin entries between → IsWithin entries after) → IsReplied before after client what reply
replied-done before between after client what answered reply done handed sound within = record {
  step = handed ∙ ap (delivered client) done.step;
  sound = sound;
  within = λ entries h. within _ (done.within entries h);
}

-- the reply to an entry answers its act
pub replied-body : (before after : Parts) (client : ℕ) (what : Act) (reply : Reply) → IsReplied before after client what reply →
    reply.body ≡ (act_step (state_from before) client what).body
replied-body before after client what reply h = ap (λ (s : Stepped). s.reply.body) h.step ∙ delivered-body client (act_step (state_from before) client what)
