-- The functions say what the machine does.
use denote.Enum.Bare.{same_true}
use Rattle.std.proofs.Common.{◌≡◌, ℕ, zero, suc, ◌+◌, ◌≤◌, ◌<◌, nat_lt, Bool, true, false, MatchBool, if◌then◌else◌, List, [], ◌∷◌, take, drop, length, Option, Some, None, inl, inr, refl, sym, ap, ◌∙◌, subst, rules, arith, length-drop}
use Rattle.std.proofs.lemmas.List.{length-map}
use Rattle.std.specs.Option.{option_and_then}
use Rattle.std.proofs.lemmas.Bool.{cases_lt}
use Rattle.std.proofs.lemmas.Bool.Decides.{nat_tests}
use Rattle.jsh_tree.specs.contracts.token.TokenKind.{the_type}
use Rattle.jsh_tree.specs.declared.token.Token.{Token}
use Rattle.jsh_tree.specs.declared.token.TokenKind.{TokenKind}
use Rattle.jsh_tree.specs.declared.token.TokenKind.TheVariants as token
use Rattle.jsh_grammar.specs.Fronts.{IsPrefix}
use Rattle.jsh_recognizer.specs.declared.frame.Frame.{Frame}
use Rattle.jsh_recognizer.specs.declared.frame.Frame.TheVariants as frame
use Rattle.jsh_recognizer.specs.declared.recognizer.Start.{Start}
use Rattle.jsh_recognizer.specs.Machine.{Move, takes, passes, refuses, move_of, Frames, onto, Steps, expected, moved, passed, Runs, at_end, one_more as run_more, may_all_stop}
use Rattle.jsh_recognizer.specs.Recognizing.{first, kinds}
use Rattle.jsh_recognizer.specs.Stops.{part_of}
use Rattle.jsh_recognizer.specs.Reach.{is_same, expects, by_move, after, behind, Reason, whole, unfinished, refused, too_deep, Reach, stops, one_more, reach_by, reach, is_whole}
use Rattle.jsh_recognizer.specs.Reached.{IsReach}
use Rattle.jsh_recognizer.proofs.Stepping.{past, refuses-all, nothing-left}
use Rattle.jsh_recognizer.proofs.MeantAlike.{steps_alike}
use Rattle.jsh_recognizer.proofs.Stopped.{runs_prefix, runs_whole, step_of, next_step, step_prefix, one_kind_more, all_kinds, never_whole, runs_grow}

-- the frames take no token of the kind
abbrev pub NeverTake : Frames → TokenKind → Type 0
NeverTake fs k = (at : ℕ) (next : Frames) → Steps fs k at next → ⊥

-- ---- kinds and frames

pub same_kind : (k : TokenKind) → is_same k k ≡ true
unfolding is_same
same_kind token.Identifier = refl
same_kind _ = refl

pub same_tells : (a b : TokenKind) (r : Bool) → is_same a b ≡ r → MatchBool r (a ≡ b) (a ≡ b → ⊥)
unfolding is_same
same_tells a b true e = same_true the_type (search rules) _ _ e
same_tells a b false e = λ s. let h : is_same a b ≡ true = subst (λ j. is_same a j ≡ true) s (same_kind a) in cc

expects_it : (f : Frame) (k : TokenKind) → expects f k ≡ true → f ≡ frame.Expect k
expects_it (frame.Expect w) k e = ap frame.Expect (same_tells w k true e)
expects_it _ k e = absurd cc

expects_not : (f : Frame) (k : TokenKind) → expects f k ≡ false → f ≡ frame.Expect k → ⊥
expects_not (frame.Expect w) k e is = let same : w ≡ k = cc in same_tells w k false e same
expects_not _ k e is = cc

-- ---- limits

past_limit : (a b : ℕ) → nat_lt a b ≡ true → a < b
past_limit a b e = elim (cases_lt a b) [
  | inl lt ↦ lt
  | inr le ↦ (let f : nat_lt a b ≡ false = grind (arith, nat_tests) in absurd cc)
]

within_limit : (a b : ℕ) → nat_lt a b ≡ false → b ≤ a
within_limit a b e = elim (cases_lt a b) [
  | inl lt ↦ (let f : nat_lt a b ≡ true = grind (arith, nat_tests) in absurd cc)
  | inr le ↦ le
]

not_past : {a b : ℕ} → b ≤ a → nat_lt a b ≡ false
not_past {a} {b} le = grind (arith, nat_tests)

-- ---- what is found

same_found : (p q : ℕ × Frames) → Some p ≡ Some q → (p.0 ≡ q.0) × (p.1 ≡ q.1)
same_found p q e = let same : p ≡ q = cc in (ap (λ x. x.0) same, ap (λ x. x.1) same)

found_none : (found : ℕ × Frames) → None ≡ Some found → ⊥
found_none found e = cc

none_found : (found : ℕ × Frames) → Some found ≡ None → ⊥
none_found found e = cc

-- ---- one token

taken_by_move : (depth : ℕ) (f : Frame) (k : TokenKind) (rest : Frames) (at : ℕ) (next : Frames) (m : Move) → move_of f k ≡ m →
    (after rest k ≡ Some (at, next) → Steps rest k at next) → by_move depth rest (after rest k) m ≡ Some (at, next) → Steps ((depth, f) ∷ rest) k at next
taken_by_move depth f k rest at next (takes own fs) is onward e =
    let same = same_found (depth + own, onto depth fs rest) (at, next) e in
    subst (λ n. Steps ((depth, f) ∷ rest) k n next) same.0 (subst (λ x. Steps ((depth, f) ∷ rest) k (depth + own) x) same.1 (moved is))
taken_by_move depth f k rest at next passes is onward e = passed is (onward e)
taken_by_move depth f k rest at next refuses is onward e = absurd (found_none (at, next) e)

taken_by : (depth : ℕ) (f : Frame) (k : TokenKind) (rest : Frames) (at : ℕ) (next : Frames) (b : Bool) → expects f k ≡ b →
    (after rest k ≡ Some (at, next) → Steps rest k at next) →
    (if b then Some (depth, rest) else by_move depth rest (after rest k) (move_of f k)) ≡ Some (at, next) → Steps ((depth, f) ∷ rest) k at next
taken_by depth f k rest at next true e onward is =
    let same = same_found (depth, rest) (at, next) is in
    subst (λ n. Steps ((depth, f) ∷ rest) k n next) same.0
    (subst (λ x. Steps ((depth, f) ∷ rest) k depth x) same.1 (subst (λ g. Steps ((depth, g) ∷ rest) k depth rest) (sym (expects_it f k e)) expected))
taken_by depth f k rest at next false e onward is = taken_by_move depth f k rest at next (move_of f k) refl onward is

pub after_steps : (fs : Frames) (k : TokenKind) (at : ℕ) (next : Frames) → after fs k ≡ Some (at, next) → Steps fs k at next
after_steps [] k at next is = absurd (found_none (at, next) is)
after_steps (x ∷ rest) k at next is = taken_by x.0 x.1 k rest at next (expects x.1 k) refl (after_steps rest k at next) is

none_by_move : (depth : ℕ) (f : Frame) (k : TokenKind) (rest : Frames) (m : Move) → move_of f k ≡ m → (f ≡ frame.Expect k → ⊥) →
    (after rest k ≡ None → NeverTake rest k) → by_move depth rest (after rest k) m ≡ None → NeverTake ((depth, f) ∷ rest) k
none_by_move depth f k rest (takes own fs) is ne onward e = absurd (none_found (depth + own, onto depth fs rest) e)
none_by_move depth f k rest passes is ne onward e = λ at next s. onward e at next (past is s)
none_by_move depth f k rest refuses is ne onward e = λ at next s. refuses-all is ne s

none_by : (depth : ℕ) (f : Frame) (k : TokenKind) (rest : Frames) (b : Bool) → expects f k ≡ b → (after rest k ≡ None → NeverTake rest k) →
    (if b then Some (depth, rest) else by_move depth rest (after rest k) (move_of f k)) ≡ None → NeverTake ((depth, f) ∷ rest) k
none_by depth f k rest true e onward is = absurd (none_found (depth, rest) is)
none_by depth f k rest false e onward is = none_by_move depth f k rest (move_of f k) refl (expects_not f k e) onward is

pub after_none : (fs : Frames) (k : TokenKind) → after fs k ≡ None → NeverTake fs k
after_none [] k is = λ at next s. nothing-left refl s
after_none (x ∷ rest) k is = none_by x.0 x.1 k rest (expects x.1 k) refl (after_none rest k) is

pub steps_after : {fs next : Frames} {k : TokenKind} {at : ℕ} → Steps fs k at next → after fs k ≡ Some (at, next)
steps_after {fs} {next} {k} {at} step = by (after fs k) refl
  where
    by : (found : Option (ℕ × Frames)) → after fs k ≡ found → after fs k ≡ Some (at, next)
    by None e = absurd (after_none fs k e at next step)
    by (Some (other, frames)) e =
        let same = steps_alike (after_steps fs k other frames e) step refl in
        e ∙ ap (λ n. Some (n, frames)) same.0 ∙ ap (λ x. Some (at, x)) same.1

-- ---- tokens

pub runs_behind : {limit : ℕ} {fs last : Frames} {ks : List TokenKind} → Runs limit fs ks last → behind fs ks ≡ Some last
runs_behind at_end = refl
runs_behind (run_more step le runs) = rw (steps_after step) (runs_behind runs)

behind_by : (fs : Frames) (k : TokenKind) (ks : List TokenKind) (last : Frames) (found : Option (ℕ × Frames)) → after fs k ≡ found →
    ((next : Frames) → behind next ks ≡ Some last → (limit : ℕ) × Runs limit next ks last) → option_and_then (λ taken. behind taken.1 ks) found ≡ Some last →
    (limit : ℕ) × Runs limit fs (k ∷ ks) last
behind_by fs k ks last None e onward is = absurd cc
behind_by fs k ks last (Some (at, next)) e onward is =
    let more = onward next is in
    (at + more.0, run_more (after_steps fs k at next e) (omega arith) (runs_grow more.1 (at + more.0) (omega arith)))

pub behind_runs : (fs : Frames) (ks : List TokenKind) (last : Frames) → behind fs ks ≡ Some last → (limit : ℕ) × Runs limit fs ks last
behind_runs fs [] last is = let same : fs ≡ last = cc in (0, subst (λ x. Runs 0 fs [] x) same at_end)
behind_runs fs (k ∷ ks) last is = behind_by fs k ks last (after fs k) refl (λ next. behind_runs next ks last) is

-- why the frames take no more of these tokens
abbrev AtReason : ℕ → Frames → List TokenKind → Reason → Type 0
AtReason limit last [] whole = may_all_stop last ≡ true
AtReason limit last [] unfinished = may_all_stop last ≡ false
AtReason limit last (k ∷ ks) refused = NeverTake last k
AtReason limit last (k ∷ ks) too_deep = (at : ℕ) × (next : Frames) × Steps last k at next × (limit < at)
AtReason limit last ks _ = ⊥

abbrev Reaches : ℕ → Frames → List TokenKind → Reach → Type 0
Reaches limit fs ks r = (last : Frames) × Runs limit fs (take r.read ks) last × AtReason limit last (drop r.read ks) r.reason

at_last : (limit : ℕ) (fs : Frames) (b : Bool) → may_all_stop fs ≡ b → AtReason limit fs [] (if b then whole else unfinished)
at_last limit fs true e = e
at_last limit fs false e = e

reaches_by_depth : (limit at : ℕ) (fs next : Frames) (k : TokenKind) (ks : List TokenKind) (b : Bool) → nat_lt limit at ≡ b → Steps fs k at next →
    Reaches limit next ks (reach limit next ks) → Reaches limit fs (k ∷ ks) (if b then stops too_deep else one_more (reach limit next ks))
reaches_by_depth limit at fs next k ks true e step more = (fs, at_end, (at, next, step, past_limit limit at e))
reaches_by_depth limit at fs next k ks false e step more = (more.0, run_more step (within_limit limit at e) more.1, more.2)

reaches_by : (limit : ℕ) (fs : Frames) (k : TokenKind) (ks : List TokenKind) (found : Option (ℕ × Frames)) → after fs k ≡ found →
    ((next : Frames) → Reaches limit next ks (reach limit next ks)) → Reaches limit fs (k ∷ ks) (reach_by limit (λ next. reach limit next ks) found)
reaches_by limit fs k ks None e onward = (fs, at_end, after_none fs k e)
reaches_by limit fs k ks (Some (at, next)) e onward =
    reaches_by_depth limit at fs next k ks (nat_lt limit at) refl (after_steps fs k at next e) (onward next)

reaches : (limit : ℕ) (fs : Frames) (ks : List TokenKind) → Reaches limit fs ks (reach limit fs ks)
reaches limit fs [] = (fs, at_end, at_last limit fs (may_all_stop fs) refl)
reaches limit fs (k ∷ ks) = reaches_by limit fs k ks (after fs k) refl (λ next. reaches limit next ks)

-- the frames of tokens that are all taken
pub runs_reach : {limit : ℕ} {fs last : Frames} {ks : List TokenKind} → Runs limit fs ks last →
    reach limit fs ks ≡ record { read = length ks; reason = if may_all_stop last then whole else unfinished }
runs_reach at_end = refl
runs_reach (run_more step le runs) = rw (steps_after step, not_past le) (ap one_more (runs_reach runs))

-- ---- in words of the table

all_read : (ts : List Token) (read : ℕ) → read ≤ length ts → drop read ts ≡ [] → read ≡ length ts
all_read ts read le e = let rest = length-drop read ts in let none = ap length e in omega (arith, le, rest, none)

some_left : (ts : List Token) (read : ℕ) (t : Token) (rest : List Token) → drop read ts ≡ t ∷ rest → read < length ts
some_left ts read t rest e = let left = length-drop read ts in let some = ap length e in omega (arith, left, some)

reached : (s : Start) (ts : List Token) (read : ℕ) (last : Frames) → read ≤ length ts → Runs 256 (first s) (kinds (take read ts)) last →
    (behind : List Token) → drop read ts ≡ behind → (reason : Reason) → AtReason 256 last (kinds behind) reason →
    IsReach (part_of s) 256 ts (record { read = read; reason = reason })
reached s ts read last le runs [] e whole stop = (
  runs_prefix s 256 _ last runs,
  (all_read ts read le e, runs_whole s 256 (kinds ts) last (subst (λ x. Runs 256 (first s) x last) (all_kinds ts read e) runs) stop),
)
reached s ts read last le runs [] e unfinished stop =
    let all : Runs 256 (first s) (kinds ts) last = subst (λ x. Runs 256 (first s) x last) (all_kinds ts read e) runs in
    (runs_prefix s 256 _ last runs, (all_read ts read le e, rw e (λ room is. never_whole s all stop room is)))
reached s ts read last le runs (t ∷ rest) e refused never = (
  runs_prefix s 256 _ last runs,
  (
    some_left ts read t rest e,
    rw e (λ room is. elim (next_step s runs room t.kind (subst (IsPrefix (part_of s) room) (one_kind_more ts read e) is)) [
      | step_of {at = at} {next = next} step le ↦ never at next step
    ]),
  ),
)
reached s ts read last le runs (t ∷ rest) e too_deep deep = (
  runs_prefix s 256 _ last runs,
  (
    some_left ts read t rest e,
    (
      (let h = step_prefix s runs deep.2 in (h.0, subst (IsPrefix (part_of s) h.0) (sym (one_kind_more ts read e)) h.1)),
      λ is. elim (next_step s runs 256 t.kind (subst (IsPrefix (part_of s) 256) (one_kind_more ts read e) is)) [
        | step_of step le ↦ let h = steps_alike step deep.2 refl in absurd (omega (arith, h.0, le, deep.3))
      ],
    ),
  ),
)
reached s ts read last le runs [] e refused at = absurd at
reached s ts read last le runs [] e too_deep at = absurd at
reached s ts read last le runs (t ∷ rest) e whole at = absurd at
reached s ts read last le runs (t ∷ rest) e unfinished at = absurd at

take_kinds : (ts : List Token) (n : ℕ) → take n (kinds ts) ≡ kinds (take n ts)
take_kinds ts zero = refl
take_kinds [] (suc n) = refl
take_kinds (t ∷ ts) (suc n) = ap (λ x. t.kind ∷ x) (take_kinds ts n)

drop_kinds : (ts : List Token) (n : ℕ) → drop n (kinds ts) ≡ kinds (drop n ts)
drop_kinds ts zero = refl
drop_kinds [] (suc n) = refl
drop_kinds (t ∷ ts) (suc n) = drop_kinds ts n

few_by : (limit : ℕ) (k : TokenKind) (ks : List TokenKind) (found : Option (ℕ × Frames)) → ((next : Frames) → (reach limit next ks).read ≤ length ks) →
    (reach_by limit (λ next. reach limit next ks) found).read ≤ length (k ∷ ks)
few_by limit k ks None onward = omega arith
few_by limit k ks (Some (at, next)) onward = by (nat_lt limit at)
  where
    by : (b : Bool) → (if b then stops too_deep else one_more (reach limit next ks)).read ≤ length (k ∷ ks)
    by true = omega arith
    by false = omega (arith, onward next)

few : (limit : ℕ) (fs : Frames) (ks : List TokenKind) → (reach limit fs ks).read ≤ length ks
few limit fs [] = omega arith
few limit fs (k ∷ ks) = few_by limit k ks (after fs k) (λ next. few limit next ks)

reach_few : (limit : ℕ) (fs : Frames) (ts : List Token) → (reach limit fs (kinds ts)).read ≤ length ts
reach_few limit fs ts = let le = few limit fs (kinds ts) in let same : length (kinds ts) ≡ length ts = length-map ts (λ t. t.kind) in omega (arith, le, same)

-- how far tokens are a prefix of the part is how far the frames take them
pub reach_of : (s : Start) (ts : List Token) → IsReach (part_of s) 256 ts (reach 256 (first s) (kinds ts))
reach_of s ts =
    let r = reach 256 (first s) (kinds ts) in
    let all = reaches 256 (first s) (kinds ts) in
    reached s ts r.read all.0 (reach_few 256 (first s) ts) (subst (λ x. Runs 256 (first s) x all.0) (take_kinds ts r.read) all.1) (drop r.read ts) refl r.reason
    (subst (λ x. AtReason 256 all.0 x r.reason) (drop_kinds ts r.read) all.2)

-- ---- whole

all_of : (ks : List TokenKind) (n : ℕ) → drop n ks ≡ [] → take n ks ≡ ks
all_of ks zero e = sym e
all_of [] (suc n) e = refl
all_of (k ∷ ks) (suc n) e = ap (λ x. k ∷ x) (all_of ks n e)

whole_by : (limit : ℕ) (fs last : Frames) (ks : List TokenKind) (read : ℕ) → Runs limit fs (take read ks) last → (behind : List TokenKind) →
    drop read ks ≡ behind → (reason : Reason) → AtReason limit last behind reason → is_whole (record { read = read; reason = reason }) ≡ true →
    (end : Frames) × Runs limit fs ks end × (may_all_stop end ≡ true)
whole_by limit fs last ks read runs [] e whole stop is = (last, subst (λ x. Runs limit fs x last) (all_of ks read e) runs, stop)
whole_by limit fs last ks read runs (k ∷ rest) e whole at is = absurd at
whole_by limit fs last ks read runs rest e unfinished at is = absurd cc
whole_by limit fs last ks read runs rest e refused at is = absurd cc
whole_by limit fs last ks read runs rest e too_deep at is = absurd cc

-- the frames behind all of them, where nothing more need come
pub whole_runs : (limit : ℕ) (fs : Frames) (ks : List TokenKind) → is_whole (reach limit fs ks) ≡ true →
    (last : Frames) × Runs limit fs ks last × (may_all_stop last ≡ true)
whole_runs limit fs ks is =
    let r = reach limit fs ks in
    let all = reaches limit fs ks in
    whole_by limit fs all.0 ks r.read all.1 (drop r.read ks) refl r.reason all.2 is
