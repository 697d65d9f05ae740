-- The bytes of a history with an entry more fit 64 bits.
use Rattle.std.proofs.Common.{◌≡◌, ℕ, ◌+◌, ◌<◌, ◌^◌, List, length, refl, ap, ◌∙◌, arith}
use Rattle.jsh_snippet.specs.declared.acts.Act.{Act}
use Rattle.jsh_snippet.specs.declared.acts.Act.TheVariants as act
use Rattle.jsh_snippet.specs.declared.acts.Entry.{Entry}
use Rattle.jsh_snippet.specs.declared.replies.ReplyBody.{ReplyBody}
use Rattle.jsh_core.specs.History.{act_bytes, source_bytes, MayDo}
use Rattle.jsh_core.specs.Step.{kept_act}

-- an act is kept with the text that it hands in
pub bytes-kept : (what : Act) (answered : ReplyBody) → act_bytes (kept_act what answered) ≡ act_bytes what
bytes-kept act.Enter answered = refl
bytes-kept (act.Submit source) answered = refl
bytes-kept (act.Turn thread steps) answered = refl
bytes-kept (act.Collect run) answered = refl
bytes-kept (act.Expire run steps) answered = refl
bytes-kept (act.Stop run) answered = refl
bytes-kept (act.Drop target) answered = refl
bytes-kept (act.Ask question) answered = refl
bytes-kept act.Reset answered = refl
bytes-kept act.Leave answered = refl
bytes-kept act.Close answered = refl

-- the text of an act that a client may do has room
pub bytes-fit : (history : List Entry) (client : ℕ) (what : Act) (bytes : ℕ) → bytes ≡ source_bytes history → bytes < 2 ^ 64 → MayDo history client what →
    bytes + act_bytes what < 2 ^ 64
bytes-fit history client act.Enter bytes is few may = omega (arith, few)
bytes-fit history client (act.Submit source) bytes is few may = omega (arith, is, may.1)
bytes-fit history client (act.Turn thread steps) bytes is few may = omega (arith, few)
bytes-fit history client (act.Collect run) bytes is few may = omega (arith, few)
bytes-fit history client (act.Expire run steps) bytes is few may = omega (arith, few)
bytes-fit history client (act.Stop run) bytes is few may = omega (arith, few)
bytes-fit history client (act.Drop target) bytes is few may = omega (arith, is, may.0.1)
bytes-fit history client (act.Ask question) bytes is few may = omega (arith, is, may.0.1)
bytes-fit history client act.Reset bytes is few may = omega (arith, few)
bytes-fit history client act.Leave bytes is few may = omega (arith, few)
bytes-fit history client act.Close bytes is few may = omega (arith, few)
