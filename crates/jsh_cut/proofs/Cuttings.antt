-- How a text is cut, snippet by snippet.
use Rattle.std.proofs.Common.{◌≡◌, ℕ, zero, suc, ◌<◌, ◌≤◌, List, [], length, drop, Bool, true, false, refl, sym, ap, ◌∙◌, arith, length-drop}
use Rattle.std.specs.Prelude.{nat_lt, if◌then◌else◌}
use Rattle.std.specs.Str.{IsUtf8}
use Rattle.std.proofs.lemmas.Str.{IsUtf8-drop}
use Rattle.jsh_complete.specs.declared.completion.Completeness.{Completeness}
use Rattle.jsh_complete.specs.declared.completion.Completeness.TheVariants as completeness
use Rattle.jsh_cut.specs.declared.command.Command.TheVariants as command
use Rattle.jsh_cut.specs.declared.held.Held.{Held}
use Rattle.jsh_cut.specs.declared.held.Held.TheVariants as held
use Rattle.jsh_tree.specs.Text.{most_source}
use Rattle.jsh_cut.specs.Commands.{Gives, completion, first_source, source_of, submits, waits, by_kind, analyzed, by_text, with_command, held_text}
use Rattle.jsh_cut.proofs.Completions.{first_end}

-- ---- as many rounds as a text has bytes are enough

same_kind : (text : List ℕ) (f g : List ℕ → Gives) (kind : Completeness) →
    (kind ≡ completeness.Complete → f (drop (completion text).end text) ≡ g (drop (completion text).end text)) → by_kind text f kind ≡ by_kind text g kind
same_kind text f g completeness.Empty same = refl
same_kind text f g completeness.Complete same = ap (with_command (command.Eval (first_source text))) (same refl)
same_kind text f g completeness.CompleteWithSemi same = refl
same_kind text f g completeness.Unknown same = refl
same_kind text f g completeness.ConsideredIncomplete same = refl
same_kind text f g completeness.DefinitelyIncomplete same = refl

enough : (most other : ℕ) (text : List ℕ) → IsUtf8 text → length text < most → length text < other → analyzed most text ≡ analyzed other text
enough zero other text u room more = absurd (omega arith)
enough (suc most) zero text u room more = absurd (omega arith)
enough (suc most) (suc other) text u room more =
    let end = (completion text).end in
    same_kind text (λ r. analyzed most r) (λ r. analyzed other r) (completion text).kind
    (λ is.
    let ends = first_end text u is in
    let within : end ≤ length text = ends.0.0 in
    let some : 0 < end = ends.1 in
    let shorter : length (drop end text) < length text = omega (arith, length-drop end text) in
    enough most other (drop end text) (IsUtf8-drop text end u ends.0) (omega arith) (omega arith))

-- A whole snippet that a text begins with is submitted, and what stands behind it gives what it gives alone.
pub by_complete : (text : List ℕ) → IsUtf8 text → (completion text).kind ≡ completeness.Complete →
    with_command (command.Eval (first_source text)) (by_text (drop (completion text).end text)) ≡ by_text text
by_complete text u is =
    let end = (completion text).end in
    let ends = first_end text u is in
    let within : end ≤ length text = ends.0.0 in
    let some : 0 < end = ends.1 in
    let shorter : length (drop end text) < length text = omega (arith, length-drop end text) in
    let same = enough (suc (length (drop end text))) (length text) (drop end text) (IsUtf8-drop text end u ends.0) (omega arith) shorter in
    ap (with_command (command.Eval (first_source text))) same ∙ ap (by_kind text (λ r. analyzed (length text) r)) (sym is)

-- any other text gives what its kind says
pub by_its_kind : (text : List ℕ) (kind : Completeness) (gives : Gives) → kind ≡ (completion text).kind →
    ((onward : List ℕ → Gives) → gives ≡ by_kind text onward kind) → gives ≡ by_text text
by_its_kind text kind gives is told = told (λ r. analyzed (length text) r) ∙ ap (by_kind text (λ r. analyzed (length text) r)) is

-- ---- texts that wait

pub waits_on : (waiting : Held) (source : List ℕ) (long : Bool) → long ≡ nat_lt most_source (length source) → long ≡ false →
    waits waiting source ≡ record { commands = []; held = waiting; exits = false }
waits_on waiting source long is short = rw (sym is ∙ short)

pub waits_no_more : (waiting : Held) (source : List ℕ) (long : Bool) → long ≡ nat_lt most_source (length source) → long ≡ true → waits waiting source ≡ submits source
waits_no_more waiting source long is too = rw (sym is ∙ too)

-- ---- what is held is no longer

held_waits : (waiting : Held) (source : List ℕ) (long : Bool) → length (held_text (if long then submits source else record { commands = []; held = waiting; exits = false }).held) ≤ length (held_text waiting)
held_waits waiting source true = omega arith
held_waits waiting source false = omega arith

held_kind : (text : List ℕ) (onward : List ℕ → Gives) (kind : Completeness) →
    ((rest : List ℕ) → length (held_text (onward rest).held) ≤ length rest) → length (held_text (by_kind text onward kind).held) ≤ length text
held_kind text onward completeness.Empty later = omega arith
held_kind text onward completeness.Complete later = omega (arith, later (drop (completion text).end text), length-drop (completion text).end text)
held_kind text onward completeness.CompleteWithSemi later = omega arith
held_kind text onward completeness.Unknown later = omega arith
held_kind text onward completeness.ConsideredIncomplete later = held_waits (held.MayEnd text) (source_of text) (nat_lt most_source (length (source_of text)))
held_kind text onward completeness.DefinitelyIncomplete later = held_waits (held.MustGoOn text) (source_of text) (nat_lt most_source (length (source_of text)))

pub held_analyzed : (most : ℕ) (text : List ℕ) → length (held_text (analyzed most text).held) ≤ length text
held_analyzed zero text = omega arith
held_analyzed (suc most) text = held_kind text (λ rest. analyzed most rest) (completion text).kind (λ rest. held_analyzed most rest)
