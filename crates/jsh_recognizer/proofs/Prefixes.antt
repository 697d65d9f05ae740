-- Whether kinds of tokens are a prefix of a part, a whole one, or go on to be one.
use Rattle.std.proofs.Common.{◌≡◌, ℕ, Bool, true, false, MatchBool, is_some, List, [], ◌∷◌, ◌++◌, Option, Some, None, inl, inr, refl, sym, ap, ◌∙◌, subst, append_assoc}
use Rattle.std.specs.List.{list_any}
use Rattle.jsh_tree.specs.declared.token.TokenKind.{TokenKind}
use Rattle.jsh_tree.specs.declared.token.TokenKind.TheVariants as token
use Rattle.jsh_grammar.specs.Productions.{Part}
use Rattle.jsh_grammar.specs.Fronts.{IsWhole, IsViable, IsPrefix}
use Rattle.jsh_grammar.proofs.Onward.{viable_goes_on, whole_cut}
use Rattle.jsh_recognizer.specs.declared.recognizer.Start.{Start}
use Rattle.jsh_recognizer.specs.Machine.{Frames, Steps, Runs, at_end, one_more, may_all_stop}
use Rattle.jsh_recognizer.specs.Recognizing.{first}
use Rattle.jsh_recognizer.specs.Stops.{part_of}
use Rattle.jsh_recognizer.specs.Reach.{is_same, after, behind, Reach, reach, is_whole, every_kind, take_some, goes_on}
use Rattle.jsh_recognizer.proofs.Stopped.{runs_prefix, prefix_runs, runs_whole, whole_may_stop, step_of, next_step, step_prefix}
use Rattle.jsh_recognizer.proofs.Reaches.{NeverTake, same_tells, after_steps, steps_after, runs_behind, behind_runs, runs_reach, whole_runs}

-- ---- some token

-- a kind that passes is among all kinds
found_in : (p : TokenKind → Bool) (k : TokenKind) (ks : List TokenKind) → p k ≡ true → list_any (λ j. is_same j k) ks ≡ true → list_any p ks ≡ true
found_in p k [] is here = absurd cc
found_in p k (j ∷ ks) is here = by (p j) (is_same j k) refl refl (found_in p k ks is)
  where
    by : (passes same : Bool) → p j ≡ passes → is_same j k ≡ same → (list_any (λ i. is_same i k) ks ≡ true → list_any p ks ≡ true) →
        list_any p (j ∷ ks) ≡ true
    by true same e f onward = rw e refl
    by false true e f onward = let same : j ≡ k = same_tells j k true f in let yes : p j ≡ true = subst (λ i. p i ≡ true) (sym same) is in absurd cc
    by false false e f onward = rw e (onward (rw f at here))

each_kind : (k : TokenKind) → list_any (λ j. is_same j k) every_kind ≡ true
unfolding is_same every_kind
each_kind token.Identifier = refl
each_kind _ = refl

some_of : (p : TokenKind → Bool) (ks : List TokenKind) → list_any p ks ≡ true → (k : TokenKind) × (p k ≡ true)
some_of p [] is = absurd cc
some_of p (k ∷ ks) is = by (p k) refl (some_of p ks)
  where
    by : (b : Bool) → p k ≡ b → (list_any p ks ≡ true → (k : TokenKind) × (p k ≡ true)) → (k : TokenKind) × (p k ≡ true)
    by true e onward = (k, e)
    by false e onward = onward (rw e at is)

some_steps : (fs : Frames) (k : TokenKind) (found : Option (ℕ × Frames)) → after fs k ≡ found → is_some found ≡ true →
    (at : ℕ) × (next : Frames) × Steps fs k at next
some_steps fs k None e is = absurd cc
some_steps fs k (Some (at, next)) e is = (at, next, after_steps fs k at next e)

pub some_taken : (fs : Frames) → take_some fs ≡ true → (k : TokenKind) × (at : ℕ) × (next : Frames) × Steps fs k at next
unfolding take_some
some_taken fs is =
    let found = some_of (λ k. is_some (after fs k)) every_kind is in
    let step = some_steps fs found.0 (after fs found.0) refl found.1 in
    (found.0, step.0, step.1, step.2)

pub none_taken : (fs : Frames) → take_some fs ≡ false → (k : TokenKind) → NeverTake fs k
unfolding take_some
none_taken fs is k at next step =
    let here : is_some (after fs k) ≡ true = ap is_some (steps_after step) in
    let some : take_some fs ≡ true = found_in (λ j. is_some (after fs j)) k every_kind here (each_kind k) in
    cc

-- ---- prefixes

-- whether they are a prefix in some room
pub prefix_tells : (s : Start) (ks : List TokenKind) →
    MatchBool (is_some (behind (first s) ks)) ((room : ℕ) × IsPrefix (part_of s) room ks) ((room : ℕ) × IsPrefix (part_of s) room ks → ⊥)
prefix_tells s ks = by (behind (first s) ks) refl
  where
    by : (found : Option Frames) → behind (first s) ks ≡ found →
        MatchBool (is_some found) ((room : ℕ) × IsPrefix (part_of s) room ks) ((room : ℕ) × IsPrefix (part_of s) room ks → ⊥)
    by None e = λ is. let runs = prefix_runs s is.0 ks is.1 in let some = runs_behind runs.1 in cc
    by (Some last) e = let runs = behind_runs (first s) ks last e in (runs.0, runs_prefix s runs.0 ks last runs.1)

whole_by_reason : (s : Start) (room : ℕ) (ks : List TokenKind) (r : Reach) → reach room (first s) ks ≡ r → (b : Bool) → is_whole r ≡ b →
    MatchBool b (IsWhole (part_of s) room ks) (IsWhole (part_of s) room ks → ⊥)
whole_by_reason s room ks r e true is = let runs = whole_runs room (first s) ks (ap is_whole e ∙ is) in runs_whole s room ks runs.0 runs.1 runs.2
whole_by_reason s room ks r e false is = λ whole_part.
    let runs = prefix_runs s room ks (inl whole_part) in
    let stop : may_all_stop runs.0 ≡ true = whole_may_stop s room ks runs.0 runs.1 whole_part in
    let same = ap is_whole (runs_reach runs.1) in
    let yes : is_whole (reach room (first s) ks) ≡ true = same ∙ (rw stop refl) in
    let no : is_whole (reach room (first s) ks) ≡ false = ap is_whole e ∙ is in
    cc

-- whether they are a whole part in the room
pub whole_tells : (s : Start) (room : ℕ) (ks : List TokenKind) →
    MatchBool (is_whole (reach room (first s) ks)) (IsWhole (part_of s) room ks) (IsWhole (part_of s) room ks → ⊥)
whole_tells s room ks = whole_by_reason s room ks (reach room (first s) ks) refl (is_whole (reach room (first s) ks)) refl

-- ---- what goes on

runs_front : {limit : ℕ} {fs last : Frames} (ks more : List TokenKind) → Runs limit fs (ks ++ more) last →
    (between : Frames) × Runs limit fs ks between
runs_front {fs = fs} [] more runs = (fs, at_end)
runs_front (k ∷ ks) more (one_more step le runs) = let h = runs_front ks more runs in (h.0, one_more step le h.1)

-- the first kinds of a prefix are one
pub front_prefix : (s : Start) (room : ℕ) (ks more : List TokenKind) → IsPrefix (part_of s) room (ks ++ more) → IsPrefix (part_of s) room ks
front_prefix s room ks more is =
    let all = prefix_runs s room (ks ++ more) is in
    let some = runs_front ks more all.1 in
    runs_prefix s room ks some.0 some.1

-- what a token more leaves a prefix goes on
pub prefix_viable : (n : Part) (room : ℕ) (ks : List TokenKind) (k : TokenKind) → IsPrefix n room (ks ++ k ∷ []) → (deeper : ℕ) × IsViable n deeper ks
prefix_viable n room ks k (inl is) = (room, whole_cut n room ks (k ∷ []) (λ e. cc) is)
prefix_viable n room ks k (inr is) =
    let more = viable_goes_on n room (ks ++ k ∷ []) is in
    (more.0, whole_cut n more.0 ks (k ∷ more.1) (λ e. cc) (subst (IsWhole n more.0) (append_assoc ks (k ∷ []) more.1) more.3))

-- what goes on is a prefix with some token more
pub viable_prefix : (s : Start) {room : ℕ} (ks : List TokenKind) → IsViable (part_of s) room ks →
    (k : TokenKind) × (deeper : ℕ) × IsPrefix (part_of s) deeper (ks ++ k ∷ [])
viable_prefix s {room = room} ks is = let more = viable_goes_on (part_of s) room ks is in by more.0 more.1 more.2 more.3
  where
    by : (deeper : ℕ) (rest : List TokenKind) → (rest ≡ [] → ⊥) → IsWhole (part_of s) deeper (ks ++ rest) →
        (k : TokenKind) × (deeper : ℕ) × IsPrefix (part_of s) deeper (ks ++ k ∷ [])
    by deeper [] some is = absurd (some refl)
    by deeper (k ∷ rest) some is =
        (k, deeper, front_prefix s deeper (ks ++ k ∷ []) rest (inl (subst (IsWhole (part_of s) deeper) (sym (append_assoc ks (k ∷ []) rest)) is)))

viable_by : (s : Start) (ks : List TokenKind) (last : Frames) → behind (first s) ks ≡ Some last → (b : Bool) → take_some last ≡ b →
    MatchBool b ((room : ℕ) × IsViable (part_of s) room ks) ((room : ℕ) × IsViable (part_of s) room ks → ⊥)
viable_by s ks last e true is =
    let runs = behind_runs (first s) ks last e in
    let more = some_taken last is in
    let longer = step_prefix s runs.1 more.3 in
    prefix_viable (part_of s) longer.0 ks more.0 longer.1
viable_by s ks last e false is = λ viable_part.
    let runs = behind_runs (first s) ks last e in
    let more = viable_prefix s ks viable_part.1 in
    elim (next_step s runs.1 more.1 more.0 more.2) [ step_of {at = at} {next = next} step le ↦ none_taken last is more.0 at next step ]

-- whether more tokens make them a whole part
pub viable_tells : (s : Start) (ks : List TokenKind) →
    MatchBool (goes_on (first s) ks) ((room : ℕ) × IsViable (part_of s) room ks) ((room : ℕ) × IsViable (part_of s) room ks → ⊥)
viable_tells s ks = by (behind (first s) ks) refl
  where
    by : (found : Option Frames) → behind (first s) ks ≡ found →
        MatchBool (goes_on (first s) ks) ((room : ℕ) × IsViable (part_of s) room ks) ((room : ℕ) × IsViable (part_of s) room ks → ⊥)
    by None e = rw e (λ is. let runs = prefix_runs s is.0 ks (inr is.1) in let some = runs_behind runs.1 in cc)
    by (Some last) e = rw e (viable_by s ks last e (take_some last) refl)
