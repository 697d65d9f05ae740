-- That the same entries take a client one way, but for a turn that want of memory cut short.
use Rattle.std.proofs.Common.{◌≡◌, ◌≢◌, ℕ, ◌+◌, ◌==◌, ◌⊎◌, Bool, true, false, List, [], ◌∷◌, Some, MatchBool, refl, sym, subst, subst₂, ap, ◌∙◌, inl, inr}
use Rattle.jsh_snippet.specs.declared.acts.Act.{Act}
use Rattle.jsh_snippet.specs.declared.acts.Act.TheVariants as act
use Rattle.jsh_snippet.specs.declared.acts.Entry.{Entry}
use Rattle.jsh_snippet.specs.declared.replies.ReplyBody.{ReplyBody}
use Rattle.jsh_cut.specs.declared.command.Command.{Command}
use Rattle.jsh_core.specs.declared.world.RunView.{RunView}
use Rattle.jsh_core.specs.State.{State}
use Rattle.jsh_core.specs.Step.{step}
use Rattle.jsh_shell.specs.Progress.{Phase, Progress, IsTurn, IsWholeTurn, IsCutTurn, TakesNext, Evaluates, GoesOn, OwnGoes, Goes, Follows, behind_other, behind_turn}
use Rattle.jsh_shell.specs.Progress.Phase.{Between, Evaluating, CutShort}

-- two progresses that are one, but that a turn was cut short in one of them
record Alike (q r : Progress) : Type 0 where
  phase : (q.phase ≡ r.phase) ⊎ ((q.phase ≡ CutShort) ⊎ (r.phase ≡ CutShort))
  rest : q ≡ record r { phase = q.phase }

-- progresses are equal where their parts are
equal : (q r : Progress) → q.phase ≡ r.phase → q ≡ record r { phase = q.phase } → q ≡ r
equal q r phase rest = rest ∙ ap (λ (at : Phase). let x : Progress = record r { phase = at } in x) phase

alike-equal : (q r : Progress) → q ≡ r → Alike q r
alike-equal q r e = subst (λ (x : Progress). Alike q x) e (record { phase = inl refl; rest = refl })

alike-sym : (q r : Progress) → Alike q r → Alike r q
alike-sym q r a = record {
  phase = elim a.phase [ inl e ↦ inl (sym e) | inr (inl e) ↦ inr (inr e) | inr (inr e) ↦ inr (inl e) ];
  rest = sym (ap (λ (x : Progress). let y : Progress = record x { phase = r.phase } in y) a.rest);
}

alike-left : (q r : Progress) → Alike q r → Alike (record q { has_left = true }) (record r { has_left = true })
alike-left q r a = record { phase = a.phase; rest = ap (λ (x : Progress). let y : Progress = record x { has_left = true } in y) a.rest }

-- a turn leaves the same whichever way it ended
turn : (p : Progress) (after : State) (thread : ℕ) (one other : RunView) (first second : Phase) (q r : Progress) → one ≡ other → (first ≡ second) ⊎ ((first ≡ CutShort) ⊎ (second ≡ CutShort)) →
    q ≡ behind_turn p after one.main thread first → r ≡ behind_turn p after other.main thread second → Alike q r
turn p after thread one other first second q r views phases f g = subst₂ Alike (sym (f ∙ ap (λ (v : RunView). behind_turn p after v.main thread first) views)) (sym g) (record { phase = phases; rest = refl })

turns : (budget run used thread steps : ℕ) (s after : State) (reply : ReplyBody) (p q r : Progress) → IsTurn budget run used thread steps s after reply p q → IsTurn budget run used thread steps s after reply p r → Alike q r
turns budget run used thread steps s after reply p q r f g = from f.how g.how
  where
    same : f.view ≡ g.view
    same = let e : Some f.view ≡ Some g.view = sym f.found ∙ g.found in cc

    from : IsWholeTurn budget run used f.view.main thread steps after p q ⊎ IsCutTurn budget used f.view.main thread steps after p q →
        IsWholeTurn budget run used g.view.main thread steps after p r ⊎ IsCutTurn budget used g.view.main thread steps after p r → Alike q r
    from (inl whole) (inl other) = turn p after thread f.view g.view (Evaluating run (used + steps)) (Evaluating run (used + steps)) q r same (inl refl) whole.behind other.behind
    from (inl whole) (inr cut) = turn p after thread f.view g.view (Evaluating run (used + steps)) CutShort q r same (inr (inr refl)) whole.behind cut.behind
    from (inr cut) (inl whole) = turn p after thread f.view g.view CutShort (Evaluating run (used + steps)) q r same (inr (inl refl)) cut.behind whole.behind
    from (inr cut) (inr other) = turn p after thread f.view g.view CutShort CutShort q r same (inl refl) cut.behind other.behind

takes : (p q r : Progress) (cs : List Command) (what : Act) (after : State) (reply : ReplyBody) → TakesNext p cs what after reply q → TakesNext p cs what after reply r → q ≡ r
takes p q r [] what after reply f g = absurd f
takes p q r (command ∷ cs) what after reply f g = f.1 ∙ sym g.1

evaluates : (budget : ℕ) (s : State) (p q r : Progress) (run used : ℕ) (what : Act) (after : State) (reply : ReplyBody) →
    Evaluates budget s p run used what after reply q → Evaluates budget s p run used what after reply r → Alike q r
evaluates budget s p q r run used (act.Turn thread steps) after reply f g = turns budget run used thread steps s after reply p q r f g
evaluates budget s p q r run used (act.Collect asked) after reply f g = alike-equal q r (f.behind ∙ sym g.behind)
evaluates budget s p q r run used (act.Expire asked steps) after reply f g = alike-equal q r (f.behind ∙ sym g.behind)
evaluates budget s p q r run used what after reply f g = alike-equal q r (takes p q r p.commands what after reply f.1 g.1)

goes-on : (budget : ℕ) (s : State) (p q r : Progress) (at : Phase) (what : Act) (after : State) (reply : ReplyBody) →
    GoesOn budget s p at what after reply q → GoesOn budget s p at what after reply r → Alike q r
goes-on budget s p q r Between what after reply f g = alike-equal q r (takes p q r p.commands what after reply f g)
goes-on budget s p q r (Evaluating run used) what after reply f g = evaluates budget s p q r run used what after reply f g
goes-on budget s p q r CutShort what after reply f g = absurd f

-- an own entry
own : (budget : ℕ) (s : State) (p q r : Progress) (what : Act) (after : State) (reply : ReplyBody) → OwnGoes budget s p what after reply q → OwnGoes budget s p what after reply r → Alike q r
own budget s p q r act.Leave after reply f g = alike-equal q r (f ∙ sym g)
own budget s p q r what after reply f g = goes-on budget s p q r p.phase what after reply f g

-- behind a turn that was cut short the client can only leave
own-cut : (budget : ℕ) (s : State) (p r m n : Progress) (what : Act) (after : State) (reply : ReplyBody) → p.phase ≡ CutShort → Alike p r →
    OwnGoes budget s p what after reply m → OwnGoes budget s r what after reply n → Alike m n
own-cut budget s p r m n act.Leave after reply e a f g = subst₂ Alike (sym f) (sym g) (alike-left p r a)
own-cut budget s p r m n what after reply e a f g = absurd (subst (λ (at : Phase). GoesOn budget s p at what after reply m) e f)

-- another client's entry leaves the phase
phase-other : (p : Progress) (left : Bool) (what : Act) (after : State) → p.has_left ≡ left → (behind_other p what after).phase ≡ p.phase
phase-other p true what after e = rw e refl
phase-other p false what after e = rw e refl

-- and makes the same of what is the same
rest-other : (r : Progress) (at : Phase) (left : Bool) (what : Act) (after : State) → r.has_left ≡ left →
    behind_other (record r { phase = at }) what after ≡ record (behind_other r what after) { phase = at }
rest-other r at true what after e = rw e refl
rest-other r at false what after e = rw e refl

others : (p r : Progress) (what : Act) (after : State) → Alike p r → Alike (behind_other p what after) (behind_other r what after)
others p r what after a =
    let ours : (behind_other p what after).phase ≡ p.phase = phase-other p p.has_left what after refl in
    let theirs : (behind_other r what after).phase ≡ r.phase = phase-other r r.has_left what after refl in record {
      phase = elim a.phase [ inl e ↦ inl (ours ∙ e ∙ sym theirs) | inr (inl e) ↦ inr (inl (ours ∙ e)) | inr (inr e) ↦ inr (inr (theirs ∙ e)) ];
      rest = ap (λ (x : Progress). behind_other x what after) a.rest ∙ rest-other r p.phase r.has_left what after refl
          ∙ ap (λ (at : Phase). let y : Progress = record (behind_other r what after) { phase = at } in y) (sym ours);
    }

-- an entry of any client
goes : (budget client : ℕ) (s : State) (p r m n : Progress) (entry : Entry) → Alike p r → Goes budget client s p entry m → Goes budget client s r entry n → Alike m n
goes budget client s p r m n entry a f g = from (entry.client == client) f g
  where
    Own : Progress → Progress → Type 0
    Own x y = OwnGoes budget s x entry.act (step s entry).state (step s entry).reply.body y

    mine : Own p m → Own r n → Alike m n
    mine f g = elim a.phase [
      | inl e ↦ own budget s r m n entry.act _ _ (subst (λ (x : Progress). Own x m) (equal p r e a.rest) f) g
      | inr (inl e) ↦ own-cut budget s p r m n entry.act _ _ e a f g
      | inr (inr e) ↦ alike-sym n m (own-cut budget s r p n m entry.act _ _ e (alike-sym p r a) g f)
    ]

    from : (is : Bool) → MatchBool is ((p.has_left ≡ false) × Own p m) (m ≡ behind_other p entry.act (step s entry).state) →
        MatchBool is ((r.has_left ≡ false) × Own r n) (n ≡ behind_other r entry.act (step s entry).state) → Alike m n
    from true f g = mine f.1 g.1
    from false f g = subst₂ Alike (sym f) (sym g) (others p r entry.act (step s entry).state a)

follows : (budget client : ℕ) (s : State) (p r m n : Progress) (entries : List Entry) → Alike p r → Follows budget client s p entries m → Follows budget client s r entries n → Alike m n
follows budget client s p r m n [] a f g = subst₂ Alike (sym f) (sym g) a
follows budget client s p r m n (entry ∷ entries) a f g =
    follows budget client (step s entry).state f.0 g.0 m n entries (goes budget client s p r f.0 g.0 entry a f.1 g.1) f.2 g.2

pub one-way : (budget client : ℕ) (s : State) (p q r : Progress) (entries : List Entry) → Follows budget client s p entries q → Follows budget client s p entries r → q.phase ≢ CutShort → r.phase ≢ CutShort → q ≡ r
one-way budget client s p q r entries f g first second =
    let a : Alike q r = follows budget client s p p q r entries (alike-equal p p refl) f g in
    elim a.phase [
      | inl e ↦ equal q r e a.rest
      | inr (inl e) ↦ absurd (first e)
      | inr (inr e) ↦ absurd (second e)
    ]

-- whether a turn was cut short or not, all but the phase is the same
pub one-rest : (budget client : ℕ) (s : State) (p q r : Progress) (entries : List Entry) → Follows budget client s p entries q → Follows budget client s p entries r → q ≡ record r { phase = q.phase }
one-rest budget client s p q r entries f g = (follows budget client s p p q r entries (alike-equal p p refl) f g).rest
