-- Where the reading of tokens ends, they are a prefix of the part, and the next token isn't one that goes on.
use Rattle.std.proofs.Common.{◌≡◌, ℕ, zero, suc, ◌+◌, ◌≤◌, ◌<◌, true, false, List, [], ◌∷◌, ◌++◌, take, drop, length, get_or, Option, Some, None, inl, inr, refl, sym, ap, ◌∙◌, subst, append-nil, arith}
use Rattle.std.proofs.Math.Seq.{drop-cons, drop-length, take-length}
use Rattle.jsh_tree.specs.declared.token.TokenKind.{TokenKind}
use Rattle.jsh_tree.specs.declared.token.Token.{Token}
use Rattle.jsh_grammar.specs.Productions.{Part, Symbol, part, IsProduction}
use Rattle.jsh_grammar.specs.Productions as table
use Rattle.jsh_grammar.specs.Fronts.{IsWhole, whole, viable, IsPrefix}
use Rattle.jsh_grammar.specs.Leads.{in_room, Leads, stops, leads_part, Fulfils, fulfils_part}
use Rattle.jsh_grammar.proofs.Derived.{grows, front_empty}
use Rattle.jsh_grammar.proofs.Stacks.{stack_front, stack_whole}
use Rattle.jsh_recognizer.specs.declared.recognizer.Start.{Start}
use Rattle.jsh_recognizer.specs.declared.recognizer.Start.TheVariants as start
use Rattle.jsh_recognizer.specs.declared.recognizer.Advance.{Advance}
use Rattle.jsh_recognizer.specs.declared.recognizer.Advance.TheVariants as advance
use Rattle.jsh_recognizer.specs.declared.scanner.End.{End}
use Rattle.jsh_recognizer.specs.declared.scanner.End.TheVariants as end
use Rattle.jsh_recognizer.specs.declared.scanner.Scanned.{Scanned}
use Rattle.jsh_recognizer.specs.Machine.{Frames, Steps, Runs, at_end, one_more, may_all_stop}
use Rattle.jsh_recognizer.specs.Meanings.{with_expression, with_statement, with_snippet}
use Rattle.jsh_recognizer.specs.Recognizing.{first, kinds, Wants, Advances, Ends}
use Rattle.jsh_recognizer.specs.Stops.{part_of, GoesOn, IsStop}
use Rattle.jsh_recognizer.proofs.MeantRuns.{runs_lead, runs_fulfil}
use Rattle.jsh_recognizer.proofs.MeantAlike.{steps_alike, runs_alike}
use Rattle.jsh_recognizer.proofs.TakesRuns.{leads_runs, whole_stops}

-- ---- a part alone on the stack

-- nothing is a prefix of what has a production with a symbol
empty_prefix : {n : Part} {s : Symbol} {p : List Symbol} (limit : ℕ) → IsProduction n (s ∷ p) → IsPrefix n limit []
empty_prefix limit is = inr (viable _ is front_empty)

nothing_yet : (s : Start) (limit : ℕ) → IsPrefix (part_of s) limit []
nothing_yet start.Expression limit = empty_prefix limit table.of_conditional
nothing_yet start.Statement limit = empty_prefix limit table.of_closed
nothing_yet start.Snippet limit = empty_prefix limit table.of_statement_snippet

-- what the part leads over is a prefix of it
leads_prefix : {n : Part} {limit : ℕ} {ks : List TokenKind} → IsPrefix n limit [] → Leads ((limit, part n) ∷ []) ks → IsPrefix n limit ks
leads_prefix empty stops = empty
leads_prefix {limit = limit} {ks = ks} empty (leads_part {p = p} is l) =
    elim ((stack_front limit p ks).0 (subst (λ x. Leads x ks) (append-nil (in_room limit p)) l)) [
      | inl d ↦ inl (whole p is d)
      | inr f ↦ inr (viable p is f)
    ]

prefix_leads : {n : Part} {limit : ℕ} {ks : List TokenKind} → IsPrefix n limit ks → Leads ((limit, part n) ∷ []) ks
prefix_leads {limit = limit} {ks = ks} (inl (whole p is d)) =
    leads_part is (subst (λ x. Leads x ks) (sym (append-nil (in_room limit p))) ((stack_front limit p ks).1 (inl d)))
prefix_leads {limit = limit} {ks = ks} (inr (viable p is f)) =
    leads_part is (subst (λ x. Leads x ks) (sym (append-nil (in_room limit p))) ((stack_front limit p ks).1 (inr f)))

-- what it is as a whole is a whole one
fulfils_whole : {n : Part} {limit : ℕ} {ks : List TokenKind} → Fulfils ((limit, part n) ∷ []) ks → IsWhole n limit ks
fulfils_whole {limit = limit} {ks = ks} (fulfils_part {p = p} is f) =
    whole p is ((stack_whole limit p ks).0 (subst (λ x. Fulfils x ks) (append-nil (in_room limit p)) f))

whole_fulfils : {n : Part} {limit : ℕ} {ks : List TokenKind} → IsWhole n limit ks → Fulfils ((limit, part n) ∷ []) ks
whole_fulfils {limit = limit} {ks = ks} (whole p is d) =
    fulfils_part is (subst (λ x. Fulfils x ks) (sym (append-nil (in_room limit p))) ((stack_whole limit p ks).1 d))

-- a whole part is one in more room
pub whole_grows : {n : Part} {room : ℕ} {ks : List TokenKind} → IsWhole n room ks → (more : ℕ) → room ≤ more → IsWhole n more ks
whole_grows (whole p is d) more le = whole p is (grows d more le)

-- ---- the recognizer from the start

-- what it takes is a prefix
pub runs_prefix : (s : Start) (limit : ℕ) (ks : List TokenKind) (last : Frames) → Runs limit (first s) ks last → IsPrefix (part_of s) limit ks
runs_prefix start.Expression limit ks last runs = leads_prefix (nothing_yet start.Expression limit) (runs_lead _ _ limit ks last with_expression runs)
runs_prefix start.Statement limit ks last runs = leads_prefix (nothing_yet start.Statement limit) (runs_lead _ _ limit ks last with_statement runs)
runs_prefix start.Snippet limit ks last runs = leads_prefix (nothing_yet start.Snippet limit) (runs_lead _ _ limit ks last with_snippet runs)

-- it takes each prefix
pub prefix_runs : (s : Start) (limit : ℕ) (ks : List TokenKind) → IsPrefix (part_of s) limit ks → (last : Frames) × Runs limit (first s) ks last
prefix_runs start.Expression limit ks is = leads_runs _ _ limit ks with_expression (prefix_leads is)
prefix_runs start.Statement limit ks is = leads_runs _ _ limit ks with_statement (prefix_leads is)
prefix_runs start.Snippet limit ks is = leads_runs _ _ limit ks with_snippet (prefix_leads is)

-- where it may stop, that is the whole
pub runs_whole : (s : Start) (limit : ℕ) (ks : List TokenKind) (last : Frames) → Runs limit (first s) ks last → may_all_stop last ≡ true →
    IsWhole (part_of s) limit ks
runs_whole start.Expression limit ks last runs stop = fulfils_whole (runs_fulfil _ _ limit ks last with_expression runs stop)
runs_whole start.Statement limit ks last runs stop = fulfils_whole (runs_fulfil _ _ limit ks last with_statement runs stop)
runs_whole start.Snippet limit ks last runs stop = fulfils_whole (runs_fulfil _ _ limit ks last with_snippet runs stop)

-- and behind the whole it may stop
pub whole_may_stop : (s : Start) (limit : ℕ) (ks : List TokenKind) (last : Frames) → Runs limit (first s) ks last → IsWhole (part_of s) limit ks →
    may_all_stop last ≡ true
whole_may_stop start.Expression limit ks last runs is = whole_stops _ _ limit ks last with_expression runs (whole_fulfils is)
whole_may_stop start.Statement limit ks last runs is = whole_stops _ _ limit ks last with_statement runs (whole_fulfils is)
whole_may_stop start.Snippet limit ks last runs is = whole_stops _ _ limit ks last with_snippet runs (whole_fulfils is)

-- ---- more room, and one token more

-- a greater limit lets the same pass
pub runs_grow : {limit : ℕ} {fs last : Frames} {ks : List TokenKind} → Runs limit fs ks last → (more : ℕ) → limit ≤ more → Runs more fs ks last
runs_grow at_end more le = at_end
runs_grow (one_more s at runs) more le = one_more s (omega (arith, at, le)) (runs_grow runs more le)

-- one token behind others
pub runs_put : {limit at : ℕ} {fs last next : Frames} {ks : List TokenKind} {k : TokenKind} → Runs limit fs ks last → Steps last k at next → at ≤ limit →
    Runs limit fs (ks ++ k ∷ []) next
runs_put at_end step le = one_more step le at_end
runs_put (one_more s at runs) step le = one_more s at (runs_put runs step le)

-- the frames before the last token, and its step
data Before (limit : ℕ) (fs : Frames) (ks : List TokenKind) (k : TokenKind) : Type 0 where
  before : {at : ℕ} {last next : Frames} → Runs limit fs ks last → Steps last k at next → at ≤ limit → Before limit fs ks k

before_more : {limit at : ℕ} {fs next : Frames} {j k : TokenKind} {ks : List TokenKind} → Steps fs j at next → at ≤ limit → Before limit next ks k →
    Before limit fs (j ∷ ks) k
before_more s at (before runs step le) = before (one_more s at runs) step le

runs_before : {limit : ℕ} {fs last : Frames} (ks : List TokenKind) {k : TokenKind} → Runs limit fs (ks ++ k ∷ []) last → Before limit fs ks k
runs_before [] (one_more s at runs) = before at_end s at
runs_before (j ∷ ks) (one_more s at runs) = before_more s at (runs_before ks runs)

-- the one way in which frames take a token
pub data StepOf (limit : ℕ) (fs : Frames) (k : TokenKind) : Type 0 where
  step_of : {at : ℕ} {next : Frames} → Steps fs k at next → at ≤ limit → StepOf limit fs k

-- where these tokens and one more are a prefix, the frames behind these take it
pub next_step : (s : Start) {limit : ℕ} {ks : List TokenKind} {last : Frames} → Runs limit (first s) ks last → (room : ℕ) (k : TokenKind) →
    IsPrefix (part_of s) room (ks ++ k ∷ []) → StepOf room last k
next_step s {limit = limit} {ks = ks} {last = last} runs room k is = by (runs_before ks (prefix_runs s room (ks ++ k ∷ []) is).1)
  where
    by : Before room (first s) ks k → StepOf room last k
    by (before {at = at} {last = other} {next = next} others step le) =
        let same : other ≡ last = runs_alike (runs_grow others (limit + room) (omega arith)) (runs_grow runs (limit + room) (omega arith)) in
        step_of (subst (λ x. Steps x k at next) same step) le

-- with a token that the frames take, the tokens are a prefix, in some room
pub step_prefix : (s : Start) {limit at : ℕ} {ks : List TokenKind} {last next : Frames} {k : TokenKind} → Runs limit (first s) ks last → Steps last k at next →
    (room : ℕ) × IsPrefix (part_of s) room (ks ++ k ∷ [])
step_prefix s {limit = limit} {at = at} {ks = ks} {next = next} {k = k} runs step =
    (limit + at, runs_prefix s (limit + at) (ks ++ k ∷ []) next (runs_put (runs_grow runs (limit + at) (omega arith)) step (omega arith)))

-- what the frames take is what goes on
goes_on : (s : Start) {limit : ℕ} {ks : List TokenKind} {last : Frames} (wanted : Option TokenKind) → Runs limit (first s) ks last → Wants last wanted →
    GoesOn (part_of s) ks wanted
goes_on s None runs wants = λ room k is. elim (next_step s runs room k is) [ step_of {at = at} {next = next} step le ↦ wants k at next step ]
goes_on s (Some k) runs wants = step_prefix s runs wants.2

-- ---- the tokens behind

-- one token more
pub one_kind_more : (ts : List Token) (n : ℕ) {t : Token} {rest : List Token} → drop n ts ≡ t ∷ rest → kinds (take (suc n) ts) ≡ kinds (take n ts) ++ t.kind ∷ []
one_kind_more [] zero e = absurd cc
one_kind_more [] (suc n) e = absurd cc
one_kind_more (u ∷ ts) zero {t} e = let same : u ≡ t = cc in ap (λ x. x.kind ∷ []) same
one_kind_more (u ∷ ts) (suc n) e = ap (λ x. u.kind ∷ x) (one_kind_more ts n e)

-- all of them
pub all_kinds : (ts : List Token) (n : ℕ) → drop n ts ≡ [] → kinds (take n ts) ≡ kinds ts
all_kinds [] zero e = refl
all_kinds [] (suc n) e = refl
all_kinds (u ∷ ts) zero e = absurd cc
all_kinds (u ∷ ts) (suc n) e = ap (λ x. u.kind ∷ x) (all_kinds ts n e)

-- no room makes them whole
pub never_whole : (s : Start) {limit : ℕ} {ks : List TokenKind} {last : Frames} → Runs limit (first s) ks last → may_all_stop last ≡ false → (room : ℕ) →
    IsWhole (part_of s) room ks → ⊥
never_whole s {limit = limit} {ks = ks} {last = last} runs open_yet room is =
    let yes = whole_may_stop s (limit + room) ks last (runs_grow runs (limit + room) (omega arith)) (whole_grows is (limit + room) (omega arith)) in
    absurd cc

-- what stands behind the tokens that were read, and why the reading ended there
at_stop : (s : Start) (limit : ℕ) (ts : List Token) (read : ℕ) (last : Frames) → Runs limit (first s) (kinds (take read ts)) last →
    (behind : List Token) → drop read ts ≡ behind → (e : End) → Ends limit last behind e → IsStop (part_of s) limit ts (record { read = read; end = e })
at_stop s limit ts read last runs [] none end.Whole ends = (
  runs_prefix s limit _ last runs,
  subst (IsWhole (part_of s) limit) (all_kinds ts read none) (runs_whole s limit _ last runs ends),
)
at_stop s limit ts read last runs [] none (end.Open wanted) ends = (
  runs_prefix s limit _ last runs,
  (
    none,
    rw (none) (λ room is. never_whole s runs ends.0 room (subst (IsWhole (part_of s) room) (sym (all_kinds ts read none)) is)),
    goes_on s wanted runs ends.1,
  ),
)
at_stop s limit ts read last runs [] none end.TooDeep ends = absurd ends
at_stop s limit ts read last runs [] none (end.Refused wanted) ends = absurd ends
at_stop s limit ts read last runs (t ∷ rest) more end.Whole ends = absurd ends
at_stop s limit ts read last runs (t ∷ rest) more (end.Open wanted) ends = absurd ends
at_stop s limit ts read last runs (t ∷ rest) more end.TooDeep ends = (
  runs_prefix s limit _ last runs,
  (
    (let h = step_prefix s runs ends.2 in (h.0, subst (IsPrefix (part_of s) h.0) (sym (one_kind_more ts read more)) h.1)),
    λ is. elim (next_step s runs limit t.kind (subst (IsPrefix (part_of s) limit) (one_kind_more ts read more) is)) [
      | step_of step le ↦ let h = steps_alike step ends.2 refl in absurd (omega (arith, h.0, le, ends.3))
    ],
  ),
)
at_stop s limit ts read last runs (t ∷ rest) more (end.Refused wanted) ends = (
  runs_prefix s limit _ last runs,
  (
    (t, rest, more),
    rw (more) (λ room is. elim (next_step s runs room t.kind (subst (IsPrefix (part_of s) room) (one_kind_more ts read more) is)) [
      | step_of {at = at} {next = next} step le ↦ ends.0 at next step
    ]),
    goes_on s wanted runs ends.1,
  ),
)

-- Where the frames behind the tokens that were read end the reading, it stops right.
pub stopped : (start : Start) (limit : ℕ) (ts : List Token) (s : Scanned) (last : Frames) → Runs limit (first start) (kinds (take s.read ts)) last →
    Ends limit last (drop s.read ts) s.end → IsStop (part_of start) limit ts s
stopped start limit ts s last runs ends = at_stop start limit ts s.read last runs (drop s.read ts) refl s.end ends

-- ---- the ends of a scan

-- the next token stands too deep
pub deep_end : (limit : ℕ) (old new : Frames) (a : Advance) (ts : List Token) (read : ℕ) (d : Token) → read < length ts →
    a ≡ advance.TooDeep → Advances limit (get_or ts read d).kind old new a → Ends limit old (drop read ts) end.TooDeep
deep_end limit old new a ts read d le is does =
    let P : Advance → Type 0 = λ b. Advances limit (get_or ts read d).kind old new b in
    let deep : P advance.TooDeep = subst P is does in
    let Q : List Token → Type 0 = λ us. Ends limit old us end.TooDeep in
    subst Q (sym (drop-cons ts read d le)) (deep.0.0, deep.0.1, deep.0.2, deep.0.3)

-- no token stands behind the end
pub past_end : (ts : List Token) (n : ℕ) → length ts ≤ n → take n ts ≡ ts
past_end [] zero le = refl
past_end [] (suc n) le = refl
past_end (t ∷ ts) zero le = absurd (omega (arith, le))
past_end (t ∷ ts) (suc n) le = ap (λ x. t ∷ x) (past_end ts n (omega (arith, le)))

-- all tokens are taken
pub all_taken : (limit : ℕ) (start last : Frames) (ts : List Token) (read : ℕ) → length ts ≤ read → Runs limit start (kinds (take read ts)) last →
    Runs limit start (kinds (take (length ts) ts)) last
all_taken limit start last ts read le runs =
    let P : List Token → Type 0 = λ us. Runs limit start (kinds us) last in
    subst P (past_end ts read le ∙ sym (take-length ts)) runs

-- nothing more need come
pub whole_end : (limit : ℕ) (last : Frames) (ts : List Token) (e : End) → may_all_stop last ≡ true → e ≡ end.Whole → Ends limit last (drop (length ts) ts) e
whole_end limit last ts e may is = rw (is, drop-length ts) may

-- more has to come
pub open_end : (limit : ℕ) (last : Frames) (ts : List Token) (e : End) (wanted : Option TokenKind) → may_all_stop last ≡ false → Wants last wanted →
    e ≡ end.Open wanted → Ends limit last (drop (length ts) ts) e
open_end limit last ts e wanted may wants is = rw (is, drop-length ts) (may, wants)
