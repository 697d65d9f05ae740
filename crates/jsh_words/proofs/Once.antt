-- An option that stands twice has no meaning.
use Rattle.std.proofs.Common.{◌≡◌, ℕ, Bool, true, false, ◌&&◌, ◌||◌, List, [], ◌∷◌, Option, Some, None, refl, ap, subst}
use Rattle.std.specs.Prelude.{if◌then◌else◌, not, option_and_then}
use Rattle.std.specs.List.{list_all, list_any}
use Rattle.std.specs.Str.{bytes_eq}
use Rattle.std.proofs.lemmas.Slice.Eq.{bytes_eq-Decides}
use Rattle.jsh_words.specs.declared.meaning.Meaning.{Meaning}
use Rattle.jsh_words.specs.Parts.{Part, values_of}
use Rattle.jsh_words.specs.Meant.{Given, is_empty, has_no_run, run, demo, replay, meant, number_or, file}

-- at most one
abbrev pub few : List (List ℕ) → Bool
few [] = true
few (x ∷ []) = true
few (x ∷ y ∷ more) = false

pub few_more : (x : List ℕ) (xs : List (List ℕ)) → few (x ∷ xs) ≡ true → xs ≡ []
few_more x [] e = refl
few_more x (y ∷ ys) e = absurd (cc)

-- each option at most once
abbrev pub all_few : Given → Bool
all_few g = few g.workers && (few g.budget && (few g.journal && (few g.startup && (few g.demo && (few g.replay && true)))))

abbrev pick : Bool → Bool → Bool → Bool → Option Meaning → Option Meaning → Option Meaning → Option Meaning
pick free bare no_replay no_demo a b d = if free then a else (if not bare then None else (if no_replay then b else (if no_demo then d else None)))

no_run : (free bare no_replay no_demo : Bool) (a b d : Option Meaning) → a ≡ None → bare ≡ false → pick free bare no_replay no_demo a b d ≡ None
no_run true bare no_replay no_demo a b d e n = e
no_run false bare no_replay no_demo a b d e n = ap (λ x. if not x then None else (if no_replay then b else (if no_demo then d else None))) n

no_demo_is : (bare no_replay : Bool) (a d : Option Meaning) → pick false bare no_replay false a None d ≡ None
no_demo_is true true a d = refl
no_demo_is true false a d = refl
no_demo_is false no_replay a d = refl

no_replay_is : (free bare no_demo : Bool) (a b : Option Meaning) → pick (free && false) bare false no_demo a b None ≡ None
no_replay_is true true true a b = refl
no_replay_is true true false a b = refl
no_replay_is true false no_demo a b = refl
no_replay_is false true true a b = refl
no_replay_is false true false a b = refl
no_replay_is false false no_demo a b = refl

and_right : (a b : Bool) → b ≡ false → (a && b) ≡ false
and_right true b e = e
and_right false b e = refl

none_inside : {A B : Type 0} (o : Option A) (f : A → Option B) → ((a : A) → f a ≡ None) → option_and_then f o ≡ None
none_inside None f none = refl
none_inside (Some a) f none = none a

workers_many : (ws : List (List ℕ)) (g : Given) → few ws ≡ false → meant (record g { workers = ws }) ≡ None
workers_many [] g e = absurd (cc)
workers_many (x ∷ []) g e = absurd (cc)
workers_many (x ∷ y ∷ more) g e = no_run (is_empty g.demo && is_empty g.replay) false (is_empty g.replay) (is_empty g.demo) None (demo g.demo) (replay g.replay) refl refl

budget_many : (bs : List (List ℕ)) (g : Given) → few bs ≡ false → meant (record g { budget = bs }) ≡ None
budget_many [] g e = absurd (cc)
budget_many (x ∷ []) g e = absurd (cc)
budget_many (x ∷ y ∷ more) g e =
    let h : Given = record g { budget = x ∷ y ∷ more } in
    no_run (is_empty g.demo && is_empty g.replay) (has_no_run h) (is_empty g.replay) (is_empty g.demo) (run h) (demo g.demo) (replay g.replay)
    (none_inside (number_or 0 0 16 g.workers) _ (λ workers. refl)) (and_right (is_empty g.workers) _ refl)

journal_many : (js : List (List ℕ)) (g : Given) → few js ≡ false → meant (record g { journal = js }) ≡ None
journal_many [] g e = absurd (cc)
journal_many (x ∷ []) g e = absurd (cc)
journal_many (x ∷ y ∷ more) g e =
    let h : Given = record g { journal = x ∷ y ∷ more } in
    no_run (is_empty g.demo && is_empty g.replay) (has_no_run h) (is_empty g.replay) (is_empty g.demo) (run h) (demo g.demo) (replay g.replay)
    (none_inside (number_or 0 0 16 g.workers) _ (λ workers. none_inside (number_or 10000000 1 1000000000 g.budget) _ (λ budget. refl)))
    (and_right (is_empty g.workers) _ (and_right (is_empty g.budget) _ refl))

startup_many : (ss : List (List ℕ)) (g : Given) → few ss ≡ false → meant (record g { startup = ss }) ≡ None
startup_many [] g e = absurd (cc)
startup_many (x ∷ []) g e = absurd (cc)
startup_many (x ∷ y ∷ more) g e =
    let h : Given = record g { startup = x ∷ y ∷ more } in
    no_run (is_empty g.demo && is_empty g.replay) (has_no_run h) (is_empty g.replay) (is_empty g.demo) (run h) (demo g.demo) (replay g.replay)
    (none_inside (number_or 0 0 16 g.workers) _ (λ workers. none_inside (number_or 10000000 1 1000000000 g.budget) _ (λ budget. none_inside (file g.journal) _ (λ journal. refl))))
    (and_right (is_empty g.workers) _ (and_right (is_empty g.budget) _ (and_right (is_empty g.journal) _ refl)))

demo_many : (ds : List (List ℕ)) (g : Given) → few ds ≡ false → meant (record g { demo = ds }) ≡ None
demo_many [] g e = absurd (cc)
demo_many (x ∷ []) g e = absurd (cc)
demo_many (x ∷ y ∷ more) g e = no_demo_is (has_no_run g) (is_empty g.replay) (run (record g { demo = x ∷ y ∷ more })) (replay g.replay)

replay_many : (rs : List (List ℕ)) (g : Given) → few rs ≡ false → meant (record g { replay = rs }) ≡ None
replay_many [] g e = absurd (cc)
replay_many (x ∷ []) g e = absurd (cc)
replay_many (x ∷ y ∷ more) g e = no_replay_is (is_empty g.demo) (has_no_run g) (is_empty g.demo) (run (record g { replay = x ∷ y ∷ more })) (demo g.demo)

-- one of six isn't so, or the last isn't
either : (a b : Bool) (P : Type 0) → (a ≡ false → P) → (b ≡ false → P) → (a && b) ≡ false → P
either true b P p q e = q e
either false b P p q e = p e

-- An option that stands twice has no meaning.
pub many : (g : Given) → all_few g ≡ false → meant g ≡ None
many g =
    either (few g.workers) _ (meant g ≡ None) (workers_many g.workers g)
    (either (few g.budget) _ (meant g ≡ None) (budget_many g.budget g)
    (either (few g.journal) _ (meant g ≡ None) (journal_many g.journal g)
    (either (few g.startup) _ (meant g ≡ None) (startup_many g.startup g)
    (either (few g.demo) _ (meant g ≡ None) (demo_many g.demo g)
    (either (few g.replay) true (meant g ≡ None) (replay_many g.replay g) (λ e. absurd (cc)))))))

-- where each of these stands at most once, one of them does
pub each : (ps : List Part) (name : List ℕ) (os : List (List ℕ)) → list_all (λ o. few (values_of o ps)) os ≡ true → list_any (λ o. bytes_eq o name) os ≡ true → few (values_of name ps) ≡ true
each ps name [] all any = absurd (cc)
each ps name (o ∷ os) all any = by (few (values_of o ps)) (bytes_eq o name) refl refl all any (λ a b. each ps name os a b)
  where
    by : (f b : Bool) → few (values_of o ps) ≡ f → bytes_eq o name ≡ b → (f && list_all (λ o. few (values_of o ps)) os) ≡ true → (b || list_any (λ o. bytes_eq o name) os) ≡ true
        → (list_all (λ o. few (values_of o ps)) os ≡ true → list_any (λ o. bytes_eq o name) os ≡ true → few (values_of name ps) ≡ true) → few (values_of name ps) ≡ true
    by false b is same all any next = absurd (cc)
    by true true is same all any next = subst (λ n. few (values_of n ps) ≡ true) ((bytes_eq-Decides o name).0 same) is
    by true false is same all any next = next all any
