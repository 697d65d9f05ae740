-- Acts and entries: what is read was written, and what is written is read again.
use Rattle.std.proofs.Common.{◌≡◌, ℕ, suc, ◌^◌, ◌==◌, Bool, true, false, cond, List, [], ◌∷◌, ◌++◌, Option, Some, None, refl, sym, ap, subst, ◌∙◌, append_assoc, inl, inr}
use Rattle.std.specs.Int.{w16, w32, w64, to_be_bytes}
use Rattle.std.proofs.lemmas.Bool.{eqb-true}
use Rattle.std.proofs.lemmas.Option.{same_Some}
use Rattle.jsh_snippet.specs.declared.acts.Act.{Act}
use Rattle.jsh_snippet.specs.declared.acts.Act.TheVariants as act
use Rattle.jsh_snippet.specs.declared.acts.Entry.{Entry}
use Rattle.jsh_snippet.specs.declared.acts.Question.{Question}
use Rattle.jsh_snippet.specs.declared.acts.Question.TheVariants as question
use Rattle.jsh_snippet.specs.declared.acts.Target.{Target}
use Rattle.jsh_snippet.specs.declared.acts.Target.TheVariants as target
use Rattle.jsh_replay.specs.Journal.{text_bytes, target_bytes, question_bytes, tag, field_bytes, entry_bytes, IsTargetField, IsQuestionField, FitsFields, IsWritable}
use Rattle.jsh_replay.specs.Reading.{◌>>=◌, number_at, text_at, target_by, target_at, plain_question, question_by, question_at, submit_at, turn_at, collect_at, expire_at, stop_at, drop_at, ask_at, act_by, entry_at}
use Rattle.jsh_replay.proofs.FieldLaws.{IsBytes, IsBytes-rest, bind_some, chosen, Takes, Takes-then, Takes-one, wide16, wide32, wide64, number_takes, number_again, text_takes, text_again}

nothing : (bytes : List ℕ) → IsBytes bytes → Takes bytes [] bytes
nothing bytes fits = record { parts = refl; rest_fits = fits }

-- ---- what a Drop takes back

-- a target was read behind its first byte
record IsTargetAt (kind : ℕ) (bytes : List ℕ) (x : Target × List ℕ) : Type 0 where
  takes : Takes (kind ∷ bytes) (target_bytes x.0) x.1
  fits : IsTargetField x.0

target_by-takes : (kind : ℕ) (bytes : List ℕ) (x : Target × List ℕ) → IsBytes bytes → target_by kind bytes ≡ Some x → IsTargetAt kind bytes x
unfolding target_by target_bytes IsTargetField
target_by-takes kind bytes x fits e = from (kind == 0) (kind == 1) refl refl e
  where
    from : (id named : Bool) → (kind == 0) ≡ id → (kind == 1) ≡ named →
        cond id (number_at w32 bytes >>= λ n. Some (target.Id n.0, n.1)) (cond named (text_at bytes >>= λ t. Some (target.Named t.0, t.1)) None) ≡ Some x → IsTargetAt kind bytes x
    from true named a b e =
        let s = bind_some (number_at w32 bytes) (λ n. Some (target.Id n.0, n.1)) x e in
        let t = number_takes w32 (2 ^ 32) wide32 bytes s.0 fits s.1 in
        let here : Takes (kind ∷ bytes) (0 ∷ to_be_bytes w32 s.0.0) s.0.1 = subst (λ (k : ℕ). Takes (k ∷ bytes) (0 ∷ to_be_bytes w32 s.0.0) s.0.1) (sym (eqb-true kind 0 a)) (Takes-one 0 bytes (to_be_bytes w32 s.0.0) s.0.1 t.0) in
        subst (λ (y : Target × List ℕ). IsTargetAt kind bytes y) (same_Some (target.Id s.0.0, s.0.1) x s.2) (record { takes = here; fits = t.1 })
    from false true a b e =
        let s = bind_some (text_at bytes) (λ t. Some (target.Named t.0, t.1)) x e in
        let t = text_takes bytes s.0 fits s.1 in
        let here : Takes (kind ∷ bytes) (1 ∷ text_bytes s.0.0) s.0.1 = subst (λ (k : ℕ). Takes (k ∷ bytes) (1 ∷ text_bytes s.0.0) s.0.1) (sym (eqb-true kind 1 b)) (Takes-one 1 bytes (text_bytes s.0.0) s.0.1 t.0) in
        subst (λ (y : Target × List ℕ). IsTargetAt kind bytes y) (same_Some (target.Named s.0.0, s.0.1) x s.2) (record { takes = here; fits = t.1 })
    from false false a b e = absurd cc

target_takes : (bytes : List ℕ) (x : Target × List ℕ) → IsBytes bytes → target_at bytes ≡ Some x → Takes bytes (target_bytes x.0) x.1 × IsTargetField x.0
unfolding target_at
target_takes [] x fits e = absurd cc
target_takes (kind ∷ bytes) x fits e =
    let is : IsTargetAt kind bytes x = target_by-takes kind bytes x (IsBytes-rest kind bytes fits) e in
    (is.takes, is.fits)

target_again : (what : Target) (rest : List ℕ) → IsTargetField what → target_at (target_bytes what ++ rest) ≡ Some (what, rest)
unfolding target_at target_by target_bytes IsTargetField
target_again (target.Id id) rest fits =
    ap (λ (o : Option (ℕ × List ℕ)). o >>= λ n. Some (target.Id n.0, n.1)) (number_again w32 (2 ^ 32) wide32 id rest fits)
target_again (target.Named name) rest fits =
    ap (λ (o : Option (List ℕ × List ℕ)). o >>= λ t. Some (target.Named t.0, t.1)) (text_again name rest fits)

-- ---- questions

-- a question was read behind its first byte
record IsQuestionAt (kind : ℕ) (bytes : List ℕ) (x : Question × List ℕ) : Type 0 where
  takes : Takes (kind ∷ bytes) (question_bytes x.0) x.1
  fits : IsQuestionField x.0

-- a question without a text is one byte
record IsPlain (kind : ℕ) (what : Question) : Type 0 where
  bytes : question_bytes what ≡ kind ∷ []
  fits : IsQuestionField what

plain_is : (kind : ℕ) (what : Question) → plain_question kind ≡ Some what → IsPlain kind what
unfolding plain_question question_bytes IsQuestionField
plain_is kind what e =
    elim (chosen (kind == 0) _ _ _ e) [
      | inl h ↦ one 0 question.List h.0 refl tt h.1
      | inr h ↦ elim (chosen (kind == 1) _ _ _ h.1) [
        | inl h ↦ one 1 question.ListAll h.0 refl tt h.1
        | inr h ↦ elim (chosen (kind == 2) _ _ _ h.1) [
          | inl h ↦ one 2 question.Vars h.0 refl tt h.1
          | inr h ↦ elim (chosen (kind == 3) _ _ _ h.1) [
            | inl h ↦ one 3 question.Methods h.0 refl tt h.1
            | inr h ↦ elim (chosen (kind == 4) _ _ _ h.1) [
              | inl h ↦ one 4 question.Types h.0 refl tt h.1
              | inr h ↦ elim (chosen (kind == 5) _ _ _ h.1) [
                | inl h ↦ one 5 question.Imports h.0 refl tt h.1
                | inr h ↦ elim (chosen (kind == 6) _ _ _ h.1) [
                  | inl h ↦ one 6 question.Threads h.0 refl tt h.1
                  | inr h ↦ elim (chosen (kind == 7) _ _ _ h.1) [
                    | inl h ↦ one 7 question.Help h.0 refl tt h.1
                    | inr h ↦ absurd cc
                  ]
                ]
              ]
            ]
          ]
        ]
      ]
    ]
  where
    one : (k : ℕ) (q : Question) → (kind == k) ≡ true → question_bytes q ≡ k ∷ [] → IsQuestionField q → Some q ≡ Some what → IsPlain kind what
    one k q is spelled fits same = subst (λ (w : Question). IsPlain kind w) (same_Some q what same) (record { bytes = spelled ∙ ap (λ (n : ℕ). n ∷ []) (sym (eqb-true kind k is)); fits = fits })

question_by-takes : (kind : ℕ) (bytes : List ℕ) (x : Question × List ℕ) → IsBytes bytes → question_by kind bytes ≡ Some x → IsQuestionAt kind bytes x
unfolding question_by question_bytes IsQuestionField
question_by-takes kind bytes x fits e = from (kind == 8) (kind == 9) refl refl e
  where
    from : (complete invalid : Bool) → (kind == 8) ≡ complete → (kind == 9) ≡ invalid →
        cond complete (text_at bytes >>= λ t. Some (question.Complete t.0, t.1)) (cond invalid (text_at bytes >>= λ t. Some (question.Invalid t.0, t.1)) (plain_question kind >>= λ q. Some (q, bytes))) ≡ Some x → IsQuestionAt kind bytes x
    from true invalid a b e =
        let s = bind_some (text_at bytes) (λ t. Some (question.Complete t.0, t.1)) x e in
        let t = text_takes bytes s.0 fits s.1 in
        let here : Takes (kind ∷ bytes) (8 ∷ text_bytes s.0.0) s.0.1 = subst (λ (k : ℕ). Takes (k ∷ bytes) (8 ∷ text_bytes s.0.0) s.0.1) (sym (eqb-true kind 8 a)) (Takes-one 8 bytes (text_bytes s.0.0) s.0.1 t.0) in
        subst (λ (y : Question × List ℕ). IsQuestionAt kind bytes y) (same_Some (question.Complete s.0.0, s.0.1) x s.2) (record { takes = here; fits = t.1 })
    from false true a b e =
        let s = bind_some (text_at bytes) (λ t. Some (question.Invalid t.0, t.1)) x e in
        let t = text_takes bytes s.0 fits s.1 in
        let here : Takes (kind ∷ bytes) (9 ∷ text_bytes s.0.0) s.0.1 = subst (λ (k : ℕ). Takes (k ∷ bytes) (9 ∷ text_bytes s.0.0) s.0.1) (sym (eqb-true kind 9 b)) (Takes-one 9 bytes (text_bytes s.0.0) s.0.1 t.0) in
        subst (λ (y : Question × List ℕ). IsQuestionAt kind bytes y) (same_Some (question.Invalid s.0.0, s.0.1) x s.2) (record { takes = here; fits = t.1 })
    from false false a b e =
        let s = bind_some (plain_question kind) (λ q. Some (q, bytes)) x e in
        let is : IsPlain kind s.0 = plain_is kind s.0 s.1 in
        let here : Takes (kind ∷ bytes) (question_bytes s.0) bytes = rw is.bytes (Takes-one kind bytes [] bytes (nothing bytes fits)) in
        subst (λ (y : Question × List ℕ). IsQuestionAt kind bytes y) (same_Some (s.0, bytes) x s.2) (record { takes = here; fits = is.fits })

question_takes : (bytes : List ℕ) (x : Question × List ℕ) → IsBytes bytes → question_at bytes ≡ Some x → Takes bytes (question_bytes x.0) x.1 × IsQuestionField x.0
unfolding question_at
question_takes [] x fits e = absurd cc
question_takes (kind ∷ bytes) x fits e =
    let is : IsQuestionAt kind bytes x = question_by-takes kind bytes x (IsBytes-rest kind bytes fits) e in
    (is.takes, is.fits)

question_again : (what : Question) (rest : List ℕ) → IsQuestionField what → question_at (question_bytes what ++ rest) ≡ Some (what, rest)
unfolding question_at question_by plain_question question_bytes IsQuestionField
question_again question.List rest fits = refl
question_again question.ListAll rest fits = refl
question_again question.Vars rest fits = refl
question_again question.Methods rest fits = refl
question_again question.Types rest fits = refl
question_again question.Imports rest fits = refl
question_again question.Threads rest fits = refl
question_again question.Help rest fits = refl
question_again (question.Complete text) rest fits =
    ap (λ (o : Option (List ℕ × List ℕ)). o >>= λ t. Some (question.Complete t.0, t.1)) (text_again text rest fits)
question_again (question.Invalid line) rest fits =
    ap (λ (o : Option (List ℕ × List ℕ)). o >>= λ t. Some (question.Invalid t.0, t.1)) (text_again line rest fits)

-- ---- acts

-- an act of this tag was read
record IsActAt (kind : ℕ) (bytes : List ℕ) (x : Act × List ℕ) : Type 0 where
  takes : Takes bytes (field_bytes x.0) x.1
  fits : FitsFields x.0
  kind_is : kind ≡ tag x.0

submit_takes : (bytes : List ℕ) (x : Act × List ℕ) → IsBytes bytes → submit_at bytes ≡ Some x → IsActAt 2 bytes x
unfolding submit_at field_bytes FitsFields tag
submit_takes bytes x fits e =
    let s = bind_some (text_at bytes) (λ t. Some (act.Submit t.0, t.1)) x e in
    let t = text_takes bytes s.0 fits s.1 in
    subst (λ (y : Act × List ℕ). IsActAt 2 bytes y) (same_Some (act.Submit s.0.0, s.0.1) x s.2) (record { takes = t.0; fits = t.1; kind_is = refl })

turn_takes : (bytes : List ℕ) (x : Act × List ℕ) → IsBytes bytes → turn_at bytes ≡ Some x → IsActAt 3 bytes x
unfolding turn_at field_bytes FitsFields tag
turn_takes bytes x fits e =
    let a = bind_some (number_at w32 bytes) (λ thread. number_at w16 thread.1 >>= λ steps. Some (act.Turn thread.0 steps.0, steps.1)) x e in
    let b = bind_some (number_at w16 a.0.1) (λ steps. Some (act.Turn a.0.0 steps.0, steps.1)) x a.2 in
    let t = number_takes w32 (2 ^ 32) wide32 bytes a.0 fits a.1 in
    let u = number_takes w16 (2 ^ 16) wide16 a.0.1 b.0 t.0.rest_fits b.1 in
    subst (λ (y : Act × List ℕ). IsActAt 3 bytes y) (same_Some (act.Turn a.0.0 b.0.0, b.0.1) x b.2)
    (record { takes = Takes-then bytes (to_be_bytes w32 a.0.0) a.0.1 (to_be_bytes w16 b.0.0) b.0.1 t.0 u.0; fits = (t.1, u.1); kind_is = refl })

collect_takes : (bytes : List ℕ) (x : Act × List ℕ) → IsBytes bytes → collect_at bytes ≡ Some x → IsActAt 4 bytes x
unfolding collect_at field_bytes FitsFields tag
collect_takes bytes x fits e =
    let s = bind_some (number_at w32 bytes) (λ n. Some (act.Collect n.0, n.1)) x e in
    let t = number_takes w32 (2 ^ 32) wide32 bytes s.0 fits s.1 in
    subst (λ (y : Act × List ℕ). IsActAt 4 bytes y) (same_Some (act.Collect s.0.0, s.0.1) x s.2) (record { takes = t.0; fits = t.1; kind_is = refl })

expire_takes : (bytes : List ℕ) (x : Act × List ℕ) → IsBytes bytes → expire_at bytes ≡ Some x → IsActAt 5 bytes x
unfolding expire_at field_bytes FitsFields tag
expire_takes bytes x fits e =
    let a = bind_some (number_at w32 bytes) (λ run. number_at w64 run.1 >>= λ steps. Some (act.Expire run.0 steps.0, steps.1)) x e in
    let b = bind_some (number_at w64 a.0.1) (λ steps. Some (act.Expire a.0.0 steps.0, steps.1)) x a.2 in
    let t = number_takes w32 (2 ^ 32) wide32 bytes a.0 fits a.1 in
    let u = number_takes w64 (2 ^ 64) wide64 a.0.1 b.0 t.0.rest_fits b.1 in
    subst (λ (y : Act × List ℕ). IsActAt 5 bytes y) (same_Some (act.Expire a.0.0 b.0.0, b.0.1) x b.2)
    (record { takes = Takes-then bytes (to_be_bytes w32 a.0.0) a.0.1 (to_be_bytes w64 b.0.0) b.0.1 t.0 u.0; fits = (t.1, u.1); kind_is = refl })

stop_takes : (bytes : List ℕ) (x : Act × List ℕ) → IsBytes bytes → stop_at bytes ≡ Some x → IsActAt 6 bytes x
unfolding stop_at field_bytes FitsFields tag
stop_takes bytes x fits e =
    let s = bind_some (number_at w32 bytes) (λ n. Some (act.Stop n.0, n.1)) x e in
    let t = number_takes w32 (2 ^ 32) wide32 bytes s.0 fits s.1 in
    subst (λ (y : Act × List ℕ). IsActAt 6 bytes y) (same_Some (act.Stop s.0.0, s.0.1) x s.2) (record { takes = t.0; fits = t.1; kind_is = refl })

drop_takes : (bytes : List ℕ) (x : Act × List ℕ) → IsBytes bytes → drop_at bytes ≡ Some x → IsActAt 7 bytes x
unfolding drop_at field_bytes FitsFields tag
drop_takes bytes x fits e =
    let s = bind_some (target_at bytes) (λ t. Some (act.Drop t.0, t.1)) x e in
    let t = target_takes bytes s.0 fits s.1 in
    subst (λ (y : Act × List ℕ). IsActAt 7 bytes y) (same_Some (act.Drop s.0.0, s.0.1) x s.2) (record { takes = t.0; fits = t.1; kind_is = refl })

ask_takes : (bytes : List ℕ) (x : Act × List ℕ) → IsBytes bytes → ask_at bytes ≡ Some x → IsActAt 8 bytes x
unfolding ask_at field_bytes FitsFields tag
ask_takes bytes x fits e =
    let s = bind_some (question_at bytes) (λ q. Some (act.Ask q.0, q.1)) x e in
    let t = question_takes bytes s.0 fits s.1 in
    subst (λ (y : Act × List ℕ). IsActAt 8 bytes y) (same_Some (act.Ask s.0.0, s.0.1) x s.2) (record { takes = t.0; fits = t.1; kind_is = refl })

act_takes : (kind : ℕ) (bytes : List ℕ) (x : Act × List ℕ) → IsBytes bytes → act_by kind bytes ≡ Some x → IsActAt kind bytes x
unfolding act_by field_bytes FitsFields tag
act_takes kind bytes x fits e =
    elim (chosen (kind == 1) _ _ _ e) [
      | inl h ↦ bare 1 act.Enter h.0 refl tt refl h.1
      | inr h ↦ elim (chosen (kind == 2) _ _ _ h.1) [
        | inl h ↦ tagged 2 h.0 (submit_takes bytes x fits h.1)
        | inr h ↦ elim (chosen (kind == 3) _ _ _ h.1) [
          | inl h ↦ tagged 3 h.0 (turn_takes bytes x fits h.1)
          | inr h ↦ elim (chosen (kind == 4) _ _ _ h.1) [
            | inl h ↦ tagged 4 h.0 (collect_takes bytes x fits h.1)
            | inr h ↦ elim (chosen (kind == 5) _ _ _ h.1) [
              | inl h ↦ tagged 5 h.0 (expire_takes bytes x fits h.1)
              | inr h ↦ elim (chosen (kind == 6) _ _ _ h.1) [
                | inl h ↦ tagged 6 h.0 (stop_takes bytes x fits h.1)
                | inr h ↦ elim (chosen (kind == 7) _ _ _ h.1) [
                  | inl h ↦ tagged 7 h.0 (drop_takes bytes x fits h.1)
                  | inr h ↦ elim (chosen (kind == 8) _ _ _ h.1) [
                    | inl h ↦ tagged 8 h.0 (ask_takes bytes x fits h.1)
                    | inr h ↦ elim (chosen (kind == 9) _ _ _ h.1) [
                      | inl h ↦ bare 9 act.Reset h.0 refl tt refl h.1
                      | inr h ↦ elim (chosen (kind == 10) _ _ _ h.1) [
                        | inl h ↦ bare 10 act.Leave h.0 refl tt refl h.1
                        | inr h ↦ elim (chosen (kind == 11) _ _ _ h.1) [
                          | inl h ↦ bare 11 act.Close h.0 refl tt refl h.1
                          | inr h ↦ absurd cc
                        ]
                      ]
                    ]
                  ]
                ]
              ]
            ]
          ]
        ]
      ]
    ]
  where
    tagged : (k : ℕ) → (kind == k) ≡ true → IsActAt k bytes x → IsActAt kind bytes x
    tagged k is at = subst (λ (n : ℕ). IsActAt n bytes x) (sym (eqb-true kind k is)) at

    bare : (k : ℕ) (what : Act) → (kind == k) ≡ true → field_bytes what ≡ [] → FitsFields what → k ≡ tag what → Some (what, bytes) ≡ Some x → IsActAt kind bytes x
    bare k what is none room kind_is same =
        subst (λ (y : Act × List ℕ). IsActAt kind bytes y) (same_Some (what, bytes) x same)
        (record { takes = rw none (nothing bytes fits); fits = room; kind_is = eqb-true kind k is ∙ kind_is })

act_again : (what : Act) (rest : List ℕ) → FitsFields what → act_by (tag what) (field_bytes what ++ rest) ≡ Some (what, rest)
unfolding act_by submit_at turn_at collect_at expire_at stop_at drop_at ask_at field_bytes FitsFields tag
act_again act.Enter rest fits = refl
act_again (act.Submit source) rest fits =
    ap (λ (o : Option (List ℕ × List ℕ)). o >>= λ t. Some (act.Submit t.0, t.1)) (text_again source rest fits)
act_again (act.Turn thread steps) rest fits =
    ap (λ (o : Option (ℕ × List ℕ)). o >>= λ n. number_at w16 n.1 >>= λ s. Some (act.Turn n.0 s.0, s.1))
    (ap (number_at w32) (append_assoc (to_be_bytes w32 thread) (to_be_bytes w16 steps) rest) ∙ number_again w32 (2 ^ 32) wide32 thread (to_be_bytes w16 steps ++ rest) fits.0)
    ∙ ap (λ (o : Option (ℕ × List ℕ)). o >>= λ s. Some (act.Turn thread s.0, s.1)) (number_again w16 (2 ^ 16) wide16 steps rest fits.1)
act_again (act.Collect run) rest fits =
    ap (λ (o : Option (ℕ × List ℕ)). o >>= λ n. Some (act.Collect n.0, n.1)) (number_again w32 (2 ^ 32) wide32 run rest fits)
act_again (act.Expire run steps) rest fits =
    ap (λ (o : Option (ℕ × List ℕ)). o >>= λ n. number_at w64 n.1 >>= λ s. Some (act.Expire n.0 s.0, s.1))
    (ap (number_at w32) (append_assoc (to_be_bytes w32 run) (to_be_bytes w64 steps) rest) ∙ number_again w32 (2 ^ 32) wide32 run (to_be_bytes w64 steps ++ rest) fits.0)
    ∙ ap (λ (o : Option (ℕ × List ℕ)). o >>= λ s. Some (act.Expire run s.0, s.1)) (number_again w64 (2 ^ 64) wide64 steps rest fits.1)
act_again (act.Stop run) rest fits =
    ap (λ (o : Option (ℕ × List ℕ)). o >>= λ n. Some (act.Stop n.0, n.1)) (number_again w32 (2 ^ 32) wide32 run rest fits)
act_again (act.Drop what) rest fits =
    ap (λ (o : Option (Target × List ℕ)). o >>= λ t. Some (act.Drop t.0, t.1)) (target_again what rest fits)
act_again (act.Ask what) rest fits =
    ap (λ (o : Option (Question × List ℕ)). o >>= λ q. Some (act.Ask q.0, q.1)) (question_again what rest fits)
act_again act.Reset rest fits = refl
act_again act.Leave rest fits = refl
act_again act.Close rest fits = refl

-- ---- entries

-- an entry that was read is one that was written
pub entry_takes : (bytes : List ℕ) (x : Entry × List ℕ) → IsBytes bytes → entry_at bytes ≡ Some x → Takes bytes (entry_bytes x.0) x.1 × IsWritable x.0
unfolding entry_at entry_bytes
entry_takes [] x fits e = absurd cc
entry_takes (kind ∷ []) x fits e = absurd cc
entry_takes (kind ∷ client ∷ bytes) x fits e =
    let s = bind_some (act_by kind bytes) (λ what. Some (record { client = client; act = what.0 }, what.1)) x e in
    let rest_fits : IsBytes bytes = λ i. fits (suc (suc i)) in
    let is : IsActAt kind bytes s.0 = act_takes kind bytes s.0 rest_fits s.1 in
    let made : Entry = record { client = client; act = s.0.0 } in
    let here : Takes (kind ∷ client ∷ bytes) (kind ∷ client ∷ field_bytes s.0.0) s.0.1 =
    Takes-one kind (client ∷ bytes) (client ∷ field_bytes s.0.0) s.0.1 (Takes-one client bytes (field_bytes s.0.0) s.0.1 is.takes) in
    let whole : Takes (kind ∷ client ∷ bytes) (tag s.0.0 ∷ client ∷ field_bytes s.0.0) s.0.1 =
    subst (λ (k : ℕ). Takes (kind ∷ client ∷ bytes) (k ∷ client ∷ field_bytes s.0.0) s.0.1) is.kind_is here in
    subst (λ (y : Entry × List ℕ). Takes (kind ∷ client ∷ bytes) (entry_bytes y.0) y.1 × IsWritable y.0) (same_Some (made, s.0.1) x s.2)
    (whole, record { client = fits 1; fields = is.fits })

-- an entry that was written is read again, whatever follows
pub entry_again : (entry : Entry) (rest : List ℕ) → IsWritable entry → entry_at (entry_bytes entry ++ rest) ≡ Some (entry, rest)
unfolding entry_at entry_bytes
entry_again entry rest fits =
    ap (λ (o : Option (Act × List ℕ)). o >>= λ what. Some (record { client = entry.client; act = what.0 }, what.1)) (act_again entry.act rest fits.fields)
