-- Which words ask for a replay.
use Rattle.std.proofs.Common.{◌≡◌, inl, inr, ℕ, ◌+◌, suc, Bool, true, false, ◌&&◌, ◌||◌, cond, List, [], ◌∷◌, ◌++◌, map, take, drop, codes, Option, Some, None, refl, sym, ap, ap₂, ◌∙◌, subst, arith}
use Rattle.std.specs.Prelude.{◌==◌, if◌then◌else◌, not, option_and_then, option_map, IfSome}
use Rattle.std.specs.List.{list_all, list_any, filter, before_first, after_first, position_or_len}
use Rattle.std.specs.Str.{bytes_eq}
use Rattle.std.proofs.lemmas.List.{take-append-drop}
use Rattle.std.proofs.lemmas.Bool.{eqb-true}
use Rattle.std.proofs.lemmas.Cmp.{nat_list_eq_equiv}
use Rattle.std.proofs.lemmas.Slice.Eq.{bytes_eq-Decides}
use Rattle.jsh_words.specs.declared.meaning.Meaning.{Meaning}
use Rattle.jsh_words.specs.declared.meaning.Meaning.TheVariants.{Run, Demo, Replay}
use Rattle.jsh_words.specs.Parts.{Part, Word, rest, option, unknown, plain, word_of, behind_dashes, is_equals, script, is_option, options, step, with_part, parts_from, values_of}
use Rattle.jsh_words.specs.Meant.{Given, given_by, is_empty, is_file, has_no_run, run, demo, replay, meant, meaning, number, number_or, file, are_scripts, is_replay}
use Rattle.jsh_words.specs.Lone.{is_end, is_lone_file}
use Rattle.jsh_words.proofs.Shapes.{Shows, shown}
use Rattle.jsh_words.proofs.Once.{few, few_more}
use Rattle.jsh_words.proofs.Rows.{Key, Keys}
use Rattle.jsh_words.proofs.Whole.{keys}

-- ---- a replay alone

first : (a b : Bool) → (a && b) ≡ true → a ≡ true
first true b e = refl
first false b e = e

second : (a b : Bool) → (a && b) ≡ true → b ≡ true
second true b e = e
second false b e = absurd (cc)

and_false : (a : Bool) → (a && false) ≡ false
and_false true = refl
and_false false = refl

both : (a : Bool) → a ≡ true → a ≡ false → ⊥
both true e f = absurd (cc)
both false e f = absurd (cc)

or_true : (a : Bool) → (a || true) ≡ true
or_true true = refl
or_true false = refl

or_left : (a b : Bool) → (a || b) ≡ true → a ≡ false → b ≡ true
or_left true b e f = absurd (cc)
or_left false b e f = e

in_turn : {A : Type 0} (f : A → Option Meaning) (o : Option A) → ((a : A) → is_replay (f a) ≡ false) → is_replay (option_and_then f o) ≡ false
in_turn f None nor = refl
in_turn f (Some a) nor = nor a

no_run_replays : (g : Given) → is_replay (run g) ≡ false
no_run_replays g = in_turn _ (number_or 0 0 16 g.workers) (λ w. in_turn _ (number_or 10000000 1 1000000000 g.budget) (λ b. in_turn _ (file g.journal) (λ j. in_turn _ (file g.startup) (λ s. by (are_scripts g) (Run w b j s g.scripts) refl))))
  where
    by : (fit : Bool) (m : Meaning) → is_replay (Some m) ≡ false → is_replay (if fit then Some m else None) ≡ false
    by true m nor = nor
    by false m nor = refl

no_number_replays : (o : Option ℕ) → is_replay (option_map Demo o) ≡ false
no_number_replays None = refl
no_number_replays (Some n) = refl

no_demo_replays : (ds : List (List ℕ)) → is_replay (demo ds) ≡ false
no_demo_replays [] = refl
no_demo_replays (d ∷ []) = no_number_replays (number 1 8192 d)
no_demo_replays (d ∷ e ∷ more) = refl

one_replay : (rs : List (List ℕ)) → is_replay (replay rs) ≡ true → few rs ≡ true
one_replay [] e = absurd (cc)
one_replay (r ∷ []) e = refl
one_replay (r ∷ s ∷ more) e = absurd (cc)

-- nothing else is given, and it is given once
pub record Alone (g : Given) : Type 0 where
  pub no_run : has_no_run g ≡ true
  pub no_demo : is_empty g.demo ≡ true
  pub once : few g.replay ≡ true

alone : (g : Given) → is_replay (meant g) ≡ true → Alone g
alone g = by (is_empty g.demo && is_empty g.replay) (has_no_run g) (is_empty g.replay) (is_empty g.demo) refl refl
  where
    by : (free bare no_replay no_demo : Bool) → has_no_run g ≡ bare → is_empty g.demo ≡ no_demo
        → is_replay (if free then run g else (if not bare then None else (if no_replay then demo g.demo else (if no_demo then replay g.replay else None)))) ≡ true → Alone g
    by true bare no_replay no_demo b d e = let nor = no_run_replays g in absurd (cc)
    by false false no_replay no_demo b d e = absurd (cc)
    by false true true no_demo b d e = let nor = no_demo_replays g.demo in absurd (cc)
    by false true false true b d e = record { no_run = b; no_demo = d; once = one_replay g.replay e }
    by false true false false b d e = absurd (cc)

-- what holds of all of these holds of one of them
among : (P : List ℕ → Bool) (name : List ℕ) (os : List (List ℕ)) → list_all P os ≡ true → list_any (λ o. bytes_eq o name) os ≡ true → P name ≡ true
among P name [] all any = absurd (cc)
among P name (o ∷ os) all any = by (bytes_eq o name) refl any (λ a. among P name os (second (P o) _ all) a)
  where
    by : (b : Bool) → bytes_eq o name ≡ b → (b || list_any (λ o. bytes_eq o name) os) ≡ true → (list_any (λ o. bytes_eq o name) os ≡ true → P name ≡ true) → P name ≡ true
    by true is any next = subst (λ n. P n ≡ true) ((bytes_eq-Decides o name).0 is) (first (P o) _ all)
    by false is any next = next any

abbrev the_replay : List ℕ
the_replay = codes "replay"

-- nothing stands under the name, unless it is that of a replay
abbrev bare_but : List Part → List ℕ → Bool
bare_but ps name = is_empty (values_of name ps) || bytes_eq name the_replay

all_six : (a b c d e f : Bool) → (a && (b && (c && (d && f)))) ≡ true → e ≡ true → ((a || false) && ((b || false) && ((c || false) && ((d || false) && ((e || false) && true))))) ≡ true
all_six true true true true true true x y = refl
all_six false b c d e f x y = absurd (cc)
all_six true false c d e f x y = absurd (cc)
all_six true true false d e f x y = absurd (cc)
all_six true true true false e f x y = absurd (cc)
all_six true true true true e false x y = absurd (cc)
all_six true true true true false f x y = absurd (cc)

bare_options : (ps : List Part) → Alone (given_by ps) → list_all (bare_but ps) options ≡ true
bare_options ps a =
    let six = all_six (is_empty (values_of (codes "workers") ps)) (is_empty (values_of (codes "budget") ps)) (is_empty (values_of (codes "journal") ps)) (is_empty (values_of (codes "startup") ps))
    (is_empty (values_of (codes "demo") ps)) (is_empty (values_of script ps)) a.no_run a.no_demo in
    with_replay (is_empty (values_of (codes "workers") ps) || false) (is_empty (values_of (codes "budget") ps) || false) (is_empty (values_of (codes "journal") ps) || false) (is_empty (values_of (codes "startup") ps) || false)
    (is_empty (values_of (codes "demo") ps) || false) (is_empty (values_of (codes "replay") ps)) six
  where
    with_replay : (a b c d e f : Bool) → (a && (b && (c && (d && (e && true))))) ≡ true → (a && (b && (c && (d && (e && ((f || true) && true)))))) ≡ true
    with_replay true true true true true true x = refl
    with_replay true true true true true false x = refl
    with_replay false b c d e f x = absurd (cc)
    with_replay true false c d e f x = absurd (cc)
    with_replay true true false d e f x = absurd (cc)
    with_replay true true true false e f x = absurd (cc)
    with_replay true true true true false f x = absurd (cc)

no_scripts : (ps : List Part) → Alone (given_by ps) → is_empty (values_of script ps) ≡ true
no_scripts ps a =
    let g = given_by ps in
    second (is_empty g.startup) (is_empty g.scripts) (second (is_empty g.journal) _ (second (is_empty g.budget) _ (second (is_empty g.workers) (is_empty g.budget && (is_empty g.journal && (is_empty g.startup && is_empty g.scripts))) a.no_run)))

-- something stands under the name of a part
stands : (part : Part) (ps : List Part) → is_empty (values_of part.0 (part ∷ ps)) ≡ false
stands part ps = ap (λ b. is_empty (map (λ q. q.1) (if b then part ∷ filter (λ q. bytes_eq q.0 part.0) ps else filter (λ q. bytes_eq q.0 part.0) ps))) (nat_list_eq_equiv.refl part.0)

stands_behind : (b : Bool) (part : Part) (rows : List Part) → is_empty (map (λ (q : Part). q.1) rows) ≡ false → is_empty (map (λ (q : Part). q.1) (if b then part ∷ rows else rows)) ≡ false
stands_behind true part rows e = refl
stands_behind false part rows e = e

-- only parts with the name of a replay stand there
head_replays : (part : Part) (ps : List Part) → Key part.0 → Alone (given_by (part ∷ ps)) → bytes_eq part.0 the_replay ≡ true
head_replays part ps (inl known) a =
    let bare = among (bare_but (part ∷ ps)) part.0 options (bare_options (part ∷ ps) a) known in
    or_left (is_empty (values_of part.0 (part ∷ ps))) (bytes_eq part.0 the_replay) bare (stands part ps)
head_replays part ps (inr is) a =
    let none : is_empty (values_of part.0 (part ∷ ps)) ≡ true = subst (λ n. is_empty (values_of n (part ∷ ps)) ≡ true) (sym is) (no_scripts (part ∷ ps) a) in
    let some = stands part ps in absurd (cc)

-- nor second part stands there
only_one : (value : List ℕ) (part : Part) (ps : List Part) → Key part.0 → Alone (given_by ((the_replay, value) ∷ part ∷ ps)) → ⊥
only_one value part ps key a =
    let none : values_of the_replay (part ∷ ps) ≡ [] = few_more value (values_of the_replay (part ∷ ps)) a.once in
    let gone : is_empty (values_of the_replay (part ∷ ps)) ≡ true = ap is_empty none in
    by key gone
  where
    full : is_empty (values_of part.0 ((the_replay, value) ∷ part ∷ ps)) ≡ false
    full = stands_behind (bytes_eq the_replay part.0) (the_replay, value) (filter (λ q. bytes_eq q.0 part.0) (part ∷ ps)) (stands part ps)

    by : Key part.0 → is_empty (values_of the_replay (part ∷ ps)) ≡ true → ⊥
    by (inl known) gone =
        let bare = among (bare_but ((the_replay, value) ∷ part ∷ ps)) part.0 options (bare_options ((the_replay, value) ∷ part ∷ ps) a) known in
        let same = or_left (is_empty (values_of part.0 ((the_replay, value) ∷ part ∷ ps))) (bytes_eq part.0 the_replay) bare full in
        let some : is_empty (values_of the_replay (part ∷ ps)) ≡ false = subst (λ n. is_empty (values_of n (part ∷ ps)) ≡ false) ((bytes_eq-Decides part.0 the_replay).0 same) (stands part ps) in
        both (is_empty (values_of the_replay (part ∷ ps))) gone some
    by (inr is) gone =
        let none : is_empty (values_of part.0 ((the_replay, value) ∷ part ∷ ps)) ≡ true = subst (λ n. is_empty (values_of n ((the_replay, value) ∷ part ∷ ps)) ≡ true) (sym is) (no_scripts ((the_replay, value) ∷ part ∷ ps) a) in
        both (is_empty (values_of part.0 ((the_replay, value) ∷ part ∷ ps))) none full

abbrev is_nil : List Part → Bool
is_nil [] = true
is_nil (part ∷ ps) = false

by_file : (b : Bool) (name : List ℕ) → is_replay (if b then Some (Replay name) else None) ≡ (b && true)
by_file true name = refl
by_file false name = refl

refuted : (b : Bool) → (b ≡ true → ⊥) → b ≡ false
refuted true nor = absurd (nor refl)
refuted false nor = refl

replay_first : (value : List ℕ) (ps : List Part) → Keys ps → is_replay (meant (given_by ((the_replay, value) ∷ ps))) ≡ (is_file value && is_nil ps)
replay_first value [] named = by_file (is_file value) value
replay_first value (part ∷ ps) named =
    refuted (is_replay (meant (given_by ((the_replay, value) ∷ part ∷ ps)))) (λ e. only_one value part ps named.0 (alone (given_by ((the_replay, value) ∷ part ∷ ps)) e)) ∙ sym (and_false (is_file value))

other_first : (part : Part) (ps : List Part) → Key part.0 → bytes_eq part.0 the_replay ≡ false → is_replay (meant (given_by (part ∷ ps))) ≡ false
other_first part ps key other =
    refuted (is_replay (meant (given_by (part ∷ ps)))) (λ e. let same = head_replays part ps key (alone (given_by (part ∷ ps)) e) in absurd (cc))

-- ---- the words that ask for one

abbrev means : Option (List Part) → Bool
means given = is_replay (option_and_then (λ ps. meant (given_by ps)) given)

abbrev is_nothing : Option (List Part) → Bool
is_nothing None = false
is_nothing (Some ps) = is_nil ps

means_nothing : means (Some []) ≡ false
means_nothing = refl

replay_then : (value : List ℕ) (given : Option (List Part)) → IfSome given Keys → means (with_part the_replay value given) ≡ (is_file value && is_nothing given)
replay_then value None named = sym (and_false (is_file value))
replay_then value (Some ps) named = replay_first value ps named

other_then : (name value : List ℕ) (given : Option (List Part)) → Key name → bytes_eq name the_replay ≡ false → means (with_part name value given) ≡ false
other_then name value None key other = refl
other_then name value (Some ps) key other = other_first (name, value) ps key other

part_is_some : (name value : List ℕ) (given : Option (List Part)) → is_nothing (with_part name value given) ≡ false
part_is_some name value None = refl
part_is_some name value (Some ps) = refl

waiting_is_some : (name : List ℕ) (words : List (List ℕ)) → is_nothing (parts_from (Some name) words) ≡ false
waiting_is_some name [] = refl
waiting_is_some name (word ∷ words) = by (word_of word)
  where
    by : (k : Word) → is_nothing (step (Some name) k word words (λ next. parts_from next words)) ≡ false
    by plain = part_is_some name word (parts_from None words)
    by rest = refl
    by unknown = refl
    by (option other value) = refl

not_end : (word : List ℕ) (words : List (List ℕ)) → bytes_eq word (codes "--") ≡ false → is_end (word ∷ words) ≡ false
not_end word [] e = e
not_end word (other ∷ words) e = refl

nothing_is_end : (words : List (List ℕ)) → is_nothing (parts_from None words) ≡ is_end words
nothing_is_end [] = refl
nothing_is_end (word ∷ words) = by (word_of word) (shown word)
  where
    by : (k : Word) → Shows word k → is_nothing (step None k word words (λ next. parts_from next words)) ≡ is_end (word ∷ words)
    by plain is = part_is_some script word (parts_from None words) ∙ sym (not_end word words is.0)
    by rest is = ends words
      where
        ends : (ws : List (List ℕ)) → is_nothing (Some (map (λ name. (script, name)) ws)) ≡ is_end (word ∷ ws)
        ends [] = sym is
        ends (w ∷ ws) = refl
    by unknown is = sym (not_end word words is.0)
    by (option name (Some value)) is = known (is_option name) ∙ sym (not_end word words is.0)
      where
        known : (b : Bool) → is_nothing (if b then with_part name value (parts_from None words) else None) ≡ false
        known true = part_is_some name value (parts_from None words)
        known false = refl
    by (option name None) is = known (is_option name) ∙ sym (not_end word words is.0)
      where
        known : (b : Bool) → is_nothing (if b then parts_from (Some name) words else None) ≡ false
        known true = waiting_is_some name words
        known false = refl

-- a file's name is no option
file_is_plain : (word : List ℕ) → is_file word ≡ true → word_of word ≡ plain
file_is_plain [] e = absurd (cc)
file_is_plain (a ∷ []) e = refl
file_is_plain (a ∷ b ∷ bs) e = by (a == 45) refl e
  where
    by : (t : Bool) → (a == 45) ≡ t → not t ≡ true → word_of (a ∷ b ∷ bs) ≡ plain
    by true is e = absurd (cc)
    by false is e = ap (λ t. if t then (if b == 45 then behind_dashes bs else unknown) else plain) is

-- `--replay`, and then a file
pub next_replays : (words : List (List ℕ)) → is_lone_file words ≡ is_replay (meaning (codes "--replay" ∷ words))
next_replays [] = refl
next_replays (word ∷ words) = sym (by (is_file word) refl)
  where
    then_file : means (with_part the_replay word (parts_from None words)) ≡ (is_file word && is_end words)
    then_file = replay_then word (parts_from None words) (keys words).0 ∙ ap (λ b. is_file word && b) (nothing_is_end words)

    none : (k : Word) → is_file word ≡ false → means (step (Some the_replay) k word words (λ next. parts_from next words)) ≡ (is_file word && is_end words)
    none plain e = then_file
    none rest e = ap (λ b. false) e ∙ sym (ap (λ b. b && is_end words) e)
    none unknown e = sym (ap (λ b. b && is_end words) e)
    none (option name value) e = sym (ap (λ b. b && is_end words) e)

    by : (b : Bool) → is_file word ≡ b → means (step (Some the_replay) (word_of word) word words (λ next. parts_from next words)) ≡ (is_file word && is_end words)
    by true e = ap (λ k. means (step (Some the_replay) k word words (λ next. parts_from next words))) (file_is_plain word e) ∙ then_file
    by false e = none (word_of word) e

-- `--replay=` with a file
with_value : (value : List ℕ) (words : List (List ℕ)) → (is_file value && is_end words) ≡ is_replay (meaning ((codes "--replay=" ++ value) ∷ words))
with_value value words = sym (replay_then value (parts_from None words) (keys words).0 ∙ ap (λ b. is_file value && b) (nothing_is_end words))

same : (a b : List ℕ) → bytes_eq a b ≡ true → a ≡ b
same a b e = (bytes_eq-Decides a b).0 e

cut_word : (word : List ℕ) → bytes_eq (take 9 word) (codes "--replay=") ≡ true → codes "--replay=" ++ drop 9 word ≡ word
cut_word word e = ap (λ front. front ++ drop 9 word) (sym (same (take 9 word) (codes "--replay=") e)) ∙ take-append-drop 9 word

pub attached_replays : (word value : List ℕ) (words : List (List ℕ)) → bytes_eq (take 9 word) (codes "--replay=") ≡ true → value ≡ drop 9 word → (is_file value && is_end words) ≡ is_replay (meaning (word ∷ words))
attached_replays word value words e is =
    subst (λ v. (is_file v && is_end words) ≡ is_replay (meaning (word ∷ words))) (sym is)
    (with_value (drop 9 word) words ∙ ap (λ w. is_replay (meaning (w ∷ words))) (cut_word word e))

-- ---- no other word

before_cons : (x : ℕ) (xs : List ℕ) → is_equals x ≡ false → before_first is_equals (x ∷ xs) ≡ x ∷ before_first is_equals xs
before_cons x xs e =
    ap (λ t. take (cond (not t) (1 + position_or_len is_equals xs) 0) (x ∷ xs)) e
    ∙ ap (λ n. take n (x ∷ xs)) (let s : 1 + position_or_len is_equals xs ≡ suc (position_or_len is_equals xs) = omega arith in s)

after_cons : (x : ℕ) (xs : List ℕ) → is_equals x ≡ false → after_first is_equals (x ∷ xs) ≡ after_first is_equals xs
after_cons x xs e =
    ap (λ t. drop (cond (not t) (1 + position_or_len is_equals xs) 0 + 1) (x ∷ xs)) e
    ∙ ap (λ n. drop n (x ∷ xs)) (let s : 1 + position_or_len is_equals xs + 1 ≡ suc (position_or_len is_equals xs + 1) = omega arith in s)

before_here : (x : ℕ) (xs : List ℕ) → is_equals x ≡ true → before_first is_equals (x ∷ xs) ≡ []
before_here x xs e = ap (λ t. take (cond (not t) (1 + position_or_len is_equals xs) 0) (x ∷ xs)) e

after_here : (x : ℕ) (xs : List ℕ) → is_equals x ≡ true → after_first is_equals (x ∷ xs) ≡ xs
after_here x xs e = ap (λ t. drop (cond (not t) (1 + position_or_len is_equals xs) 0 + 1) (x ∷ xs)) e

uncut : (bs : List ℕ) → list_any is_equals bs ≡ false → before_first is_equals bs ≡ bs
uncut [] e = refl
uncut (b ∷ bs) e = by (is_equals b) refl e (λ e'. uncut bs e')
  where
    by : (t : Bool) → is_equals b ≡ t → (t || list_any is_equals bs) ≡ false → (list_any is_equals bs ≡ false → before_first is_equals bs ≡ bs) → before_first is_equals (b ∷ bs) ≡ b ∷ bs
    by true is e next = absurd (cc)
    by false is e next = before_cons b bs is ∙ ap (λ xs. b ∷ xs) (next e)

cut : (bs : List ℕ) → list_any is_equals bs ≡ true → before_first is_equals bs ++ 61 ∷ after_first is_equals bs ≡ bs
cut [] e = absurd (cc)
cut (b ∷ bs) e = by (is_equals b) refl e (λ e'. cut bs e')
  where
    by : (t : Bool) → is_equals b ≡ t → (t || list_any is_equals bs) ≡ true → (list_any is_equals bs ≡ true → before_first is_equals bs ++ 61 ∷ after_first is_equals bs ≡ bs)
        → before_first is_equals (b ∷ bs) ++ 61 ∷ after_first is_equals (b ∷ bs) ≡ b ∷ bs
    by true is e next = ap₂ (λ xs ys. xs ++ 61 ∷ ys) (before_here b bs is) (after_here b bs is) ∙ ap (λ x. x ∷ bs) (sym (eqb-true b 61 is))
    by false is e next = ap₂ (λ xs ys. xs ++ 61 ∷ ys) (before_cons b bs is) (after_cons b bs is) ∙ ap (λ xs. b ∷ xs) (next e)

abbrev Spells : List ℕ → Word → Type 0
Spells word (option name None) = word ≡ 45 ∷ 45 ∷ name
Spells word (option name (Some value)) = word ≡ 45 ∷ 45 ∷ (name ++ 61 ∷ value)
Spells word rest = Unit {0}
Spells word unknown = Unit {0}
Spells word plain = Unit {0}

spelled_behind : (a b : ℕ) (bs : List ℕ) → (a == 45) ≡ true → (b == 45) ≡ true → Spells (a ∷ b ∷ bs) (behind_dashes bs)
spelled_behind a b [] e f = tt
spelled_behind a b (c ∷ cs) e f = by (list_any is_equals (c ∷ cs)) refl
  where
    dashed : (xs : List ℕ) → xs ≡ c ∷ cs → a ∷ b ∷ c ∷ cs ≡ 45 ∷ 45 ∷ xs
    dashed xs is = ap (λ x. x ∷ b ∷ c ∷ cs) (eqb-true a 45 e) ∙ (ap (λ x. 45 ∷ x ∷ c ∷ cs) (eqb-true b 45 f) ∙ ap (λ ys. 45 ∷ 45 ∷ ys) (sym is))

    by : (t : Bool) → list_any is_equals (c ∷ cs) ≡ t → Spells (a ∷ b ∷ c ∷ cs) (option (before_first is_equals (c ∷ cs)) (if t then Some (after_first is_equals (c ∷ cs)) else None))
    by true is = dashed (before_first is_equals (c ∷ cs) ++ 61 ∷ after_first is_equals (c ∷ cs)) (cut (c ∷ cs) is)
    by false is = dashed (before_first is_equals (c ∷ cs)) (uncut (c ∷ cs) is)

spelled : (word : List ℕ) → Spells word (word_of word)
spelled [] = tt
spelled (a ∷ []) = tt
spelled (a ∷ b ∷ bs) = by (a == 45) (b == 45) refl refl
  where
    by : (t u : Bool) → (a == 45) ≡ t → (b == 45) ≡ u → Spells (a ∷ b ∷ bs) (if t then (if u then behind_dashes bs else unknown) else plain)
    by true true e f = spelled_behind a b bs e f
    by true false e f = tt
    by false u e f = tt

waiting_means : (name : List ℕ) (words : List (List ℕ)) → is_option name ≡ true → bytes_eq name the_replay ≡ false → means (parts_from (Some name) words) ≡ false
waiting_means name [] known other = refl
waiting_means name (word ∷ words) known other = by (word_of word)
  where
    by : (k : Word) → means (step (Some name) k word words (λ next. parts_from next words)) ≡ false
    by plain = other_then name word (parts_from None words) (inl known) other
    by rest = refl
    by unknown = refl
    by (option another value) = refl

pub others_do_not : (word : List ℕ) (words : List (List ℕ)) → bytes_eq word (codes "--replay") ≡ false → bytes_eq (take 9 word) (codes "--replay=") ≡ false → false ≡ is_replay (meaning (word ∷ words))
others_do_not word words bare attached = sym (by (word_of word) (spelled word))
  where
    by : (k : Word) → Spells word k → means (step None k word words (λ next. parts_from next words)) ≡ false
    by plain is = other_then script word (parts_from None words) (inr refl) refl
    by rest is = scripts words
      where
        scripts : (ws : List (List ℕ)) → means (Some (map (λ name. (script, name)) ws)) ≡ false
        scripts [] = means_nothing
        scripts (w ∷ ws) = other_first (script, w) (map (λ name. (script, name)) ws) (inr refl) refl
    by unknown is = refl
    by (option name (Some value)) is = known (is_option name) (bytes_eq name the_replay) refl refl
      where
        known : (b t : Bool) → is_option name ≡ b → bytes_eq name the_replay ≡ t → means (if b then with_part name value (parts_from None words) else None) ≡ false
        known false t e f = refl
        known true false e f = other_then name value (parts_from None words) (inl e) f
        known true true e f =
            let spells : word ≡ codes "--replay=" ++ value = is ∙ ap (λ n. 45 ∷ 45 ∷ (n ++ 61 ∷ value)) (same name the_replay f) in
            let fits : bytes_eq (take 9 word) (codes "--replay=") ≡ true = ap (λ w. bytes_eq (take 9 w) (codes "--replay=")) spells in absurd (cc)
    by (option name None) is = known (is_option name) (bytes_eq name the_replay) refl refl
      where
        known : (b t : Bool) → is_option name ≡ b → bytes_eq name the_replay ≡ t → means (if b then parts_from (Some name) words else None) ≡ false
        known false t e f = refl
        known true false e f = waiting_means name words e f
        known true true e f =
            let fits : bytes_eq word (codes "--replay") ≡ true = ap (λ w. bytes_eq w (codes "--replay")) (is ∙ ap (λ n. 45 ∷ 45 ∷ n) (same name the_replay f)) in absurd (cc)
