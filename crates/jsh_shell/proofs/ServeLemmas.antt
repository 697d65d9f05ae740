-- How the serving of commands is put together.
use Rattle.std.proofs.Common.{◌≡◌, ℕ, ◌≤◌, List, [], ◌∷◌, ◌++◌, Option, Some, length, refl, sym, subst, ◌∙◌, append_assoc, inl, inr, ◌⊎◌}
use Rattle.jsh_io.specs.Count.{Rose}
use Rattle.jsh_cut.specs.declared.command.Command.{Command}
use Rattle.jsh_core.specs.Limits.{most_entries}
use Rattle.jsh_core.specs.History.{act_bytes}
use Rattle.jsh_shell.specs.declared.halts.Halt.{Halt}
use Rattle.jsh_shell.specs.declared.halts.Halt.TheVariants as halt
use Rattle.jsh_shell.specs.declared.session.Session.{Session}
use Rattle.jsh_shell.specs.Progress.{Phase, Progress, IsAtEnd, command_act}
use Rattle.jsh_shell.specs.Progress.Phase.{Between, Evaluating, CutShort}
use Rattle.jsh_shell.specs.Limited.{HasCommand, HasNoRoomFor, HasRest, IsLimited, IsTooLong, IsUndone}
use Rattle.jsh_shell.specs.Serving.{Advances, Halts, HasCause, Serves, ServesPart, Stands}
use Rattle.jsh_shell.proofs.Walk.{advances-nothing, advances-append, advances-halts, halts-here}

-- nothing is served by doing nothing
pub serves-nothing : (budget client : ℕ) (at : Phase) (session : Session) (held : Option (List ℕ)) → Serves budget client at at session session held held []
serves-nothing budget client at session held = record { each = λ p more ready. (p, advances-nothing budget client session.core held p, ready) }

-- want of memory before anything is done
pub part-for-memory : (budget client : ℕ) (at : Phase) (session : Session) (held : Option (List ℕ)) (served : List Command) →
    ServesPart halt.NoMemory budget client at session session held held served
part-for-memory budget client at session held served = record {
  each = λ p more ready. (p, halts-here halt.NoMemory budget client session.core held p (λ e. cc) (λ e. refl) ready.has_left);
}

-- a client between two commands isn't cut short
not_cut : (p : Progress) → p.phase ≡ Between → p.phase ≡ CutShort → ⊥
not_cut p at e = let both : Between ≡ CutShort = sym at ∙ e in cc

-- between two commands a command is undone
between-undone : (p : Progress) (command : Command) (more : List Command) → p.phase ≡ Between → p.commands ≡ command ∷ more → IsUndone p
between-undone p command more at left = rw (at, left) tt

between-end : (p : Progress) → p.phase ≡ Between → IsAtEnd p
between-end p at = rw at tt

-- a command whose text has no room
pub part-at-limit : (budget client : ℕ) (session : Session) (held : Option (List ℕ)) (command : Command) →
    (most_entries ≤ length session.core) ⊎ HasNoRoomFor session.core (act_bytes (command_act command)) →
    ServesPart halt.Limit budget client Between session session held held (command ∷ [])
part-at-limit budget client session held command why = record {
  each = λ p more ready.
      (p, halts-here halt.Limit budget client session.core held p (λ e. limited p more ready why) (λ e. absurd (not_cut p ready.phase e)) ready.has_left);
}
  where
    limited : (p : Progress) (more : List Command) → Stands Between session (command ∷ more) p →
        (most_entries ≤ length session.core) ⊎ HasNoRoomFor session.core (act_bytes (command_act command)) → IsLimited session.core p
    limited p more ready (inl full) = inr (inr (inl (between-undone p command more ready.phase ready.left), full))
    limited p more ready (inr long) = inr (inl (between-end p ready.phase, subst (λ (cs : List Command). IsTooLong session.core cs) (sym ready.left) long))

-- an evaluation that has no room to go on
pub part-when-full : (budget client run used : ℕ) (session : Session) (held : Option (List ℕ)) → most_entries ≤ length session.core →
    ServesPart halt.Limit budget client (Evaluating run used) session session held held []
part-when-full budget client run used session held full = record {
  each = λ p more ready.
      (p, halts-here halt.Limit budget client session.core held p (λ e. inr (inr (inr (rest p ready.phase), full))) (λ e. absurd (goes_on p ready.phase e)) ready.has_left);
}
  where
    rest : (p : Progress) → p.phase ≡ Evaluating run used → HasRest p.phase
    rest p at = rw at tt

    goes_on : (p : Progress) → p.phase ≡ Evaluating run used → p.phase ≡ CutShort → ⊥
    goes_on p at e = let both : Evaluating run used ≡ CutShort = sym at ∙ e in cc

-- what is served one after another is served
pub serves-append : (budget client : ℕ) (from at to : Phase) (a b c : Session) (x y z : Option (List ℕ)) (first rest : List Command) →
    Serves budget client from at a b x y first → Serves budget client at to b c y z rest → Serves budget client from to a c x z (first ++ rest)
serves-append budget client from at to a b c x y z first rest f r = record {
  each = λ p more ready.
      whole p more (f.each p (rest ++ more) (subst (λ (cs : List Command). Stands from a cs p) (append_assoc first rest more) ready));
}
  where
    whole : (p : Progress) (more : List Command) → ((m : Progress) × Advances budget client a.core b.core x y p m × Stands at b (rest ++ more) m) →
        (q : Progress) × Advances budget client a.core c.core x z p q × Stands to c more q
    whole p more one =
        let two : (q : Progress) × Advances budget client b.core c.core y z one.0 q × Stands to c more q = r.each one.0 more one.2 in
        (two.0, advances-append budget client a.core b.core c.core x y z p one.0 two.0 one.1 two.1, two.2)

-- a halt behind what was served
pub serves-part-append : (why : Halt) (budget client : ℕ) (from at : Phase) (a b c : Session) (x y z : Option (List ℕ)) (first rest : List Command) →
    Serves budget client from at a b x y first → ServesPart why budget client at b c y z rest → ServesPart why budget client from a c x z (first ++ rest)
serves-part-append why budget client from at a b c x y z first rest f r = record {
  each = λ p more ready.
      whole p more (f.each p (rest ++ more) (subst (λ (cs : List Command). Stands from a cs p) (append_assoc first rest more) ready));
}
  where
    whole : (p : Progress) (more : List Command) → ((m : Progress) × Advances budget client a.core b.core x y p m × Stands at b (rest ++ more) m) →
        (q : Progress) × Halts why budget client a.core c.core x z p q
    whole p more one =
        let two : (q : Progress) × Halts why budget client b.core c.core y z one.0 q = r.each one.0 more one.2 in
        (two.0, advances-halts why budget client a.core b.core c.core x y z p one.0 two.0 one.1 two.1)

-- a halt before further commands
pub serves-part-more : (why : Halt) (budget client : ℕ) (from : Phase) (a b : Session) (x y : Option (List ℕ)) (first rest : List Command) →
    ServesPart why budget client from a b x y first → ServesPart why budget client from a b x y (first ++ rest)
serves-part-more why budget client from a b x y first rest f = record {
  each = λ p more ready.
      f.each p (rest ++ more) (subst (λ (cs : List Command). Stands from a cs p) (append_assoc first rest more) ready);
}

-- a halt that isn't the sink's leaves its count
pub cause-elsewhere : (why : Halt) (before : ℕ) → (why ≡ halt.SinkFailed → ⊥) → HasCause why before before
cause-elsewhere halt.SinkFailed before other = absurd (other refl)
cause-elsewhere halt.NoMemory before other = refl
cause-elsewhere halt.Limit before other = refl

-- a halt behind calls that left the count
pub cause-later : (why : Halt) (first before after : ℕ) → before ≡ first → HasCause why before after → HasCause why first after
cause-later why first before after same cause = subst (λ (n : ℕ). HasCause why n after) same cause

-- a sink whose count rose failed
pub cause-status : (why : Halt) (before after : ℕ) → HasCause why before after → (after ≡ before) ⊎ (why ≡ halt.SinkFailed)
cause-status halt.SinkFailed before after cause = inr refl
cause-status halt.NoMemory before after cause = inl cause
cause-status halt.Limit before after cause = inl cause

pub sink-rose : (why : Halt) (before after : ℕ) → HasCause why before after → why ≡ halt.SinkFailed → Rose before after
sink-rose halt.SinkFailed before after cause e = cause
sink-rose halt.NoMemory before after cause e = cc
sink-rose halt.Limit before after cause e = cc
