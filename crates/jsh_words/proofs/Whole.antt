-- What `clap` makes of all the words.
use Rattle.std.proofs.Common.{◌≡◌, ℕ, Bool, true, false, ◌||◌, List, [], ◌∷◌, map, length, Option, Some, None, inl, inr, refl, sym, ap, ap₂, ◌∙◌, subst}
use Rattle.std.specs.Prelude.{◌==◌, if◌then◌else◌, option_and_then, fold, is_some, option_map, unwrap_or, IfSome, String}
use Rattle.std.specs.Option.{option_map_or}
use Rattle.std.specs.String.{string_bytes}
use Rattle.std.proofs.lemmas.Str.{IsUtf8-string_bytes}
use Rattle.clap.specs.Walk.{Row, Rule, idle, has_row, with_default, default_rows, reading_by, nothing_held, walk, walk_from, settled}
use Rattle.clap.specs.Words.{App, HasMatchesOf, kind_of, matches_of, raw_values, matched_of, found_of, rows_of}
use Rattle.clap.specs.Simple.{built, entered}
use Rattle.clap.specs.Kinds.{Kinds, HasKind, or_else}
use Rattle.clap.specs.Faults.{is_simple_and_free, fault_of, defaults_fault, given_default_fault, entered_fault, level_fault, walk_fault, settle_fault}
use Rattle.clap.specs.declared.parser.matches.ArgMatches.{ArgMatches}
use Rattle.clap.specs.declared.error.Error.{Error}
use Rattle.clap.specs.declared.error.kind.ErrorKind.TheVariants as kind
use Rattle.clap.proofs.WalkLemmas.{raw_values-rows}
use Rattle.jsh_words.specs.Parts.{Part, Word, rest, option, unknown, plain, word_of, script, is_option, options, step, with_part, parts_from, parts, values_of}
use Rattle.jsh_words.specs.Meant.{given_by, meant, meaning}
use Rattle.jsh_words.specs.Clap.{app, values_in}
use Rattle.jsh_words.proofs.Rules.{rules, long_known, long_unknown, id_known, id_script, index_script, short_unknown, app_is_simple, app_is_free}
use Rattle.jsh_words.proofs.Once.{all_few, many, each}
use Rattle.jsh_words.proofs.Walks.{Reads, AllUtf8, shape, at, bare, claims, fails, ends, Meets, parts_fault, or_else_nothing}
use Rattle.jsh_words.proofs.Rows.{Key, Keys, lookup, gathers, unfailing}

reads : Reads rules
reads = record { long = long_known; other = long_unknown; id = id_known; script_id = id_script; index = index_script; short = short_unknown }

-- ---- every part has a name

keys_with : (name value : List ℕ) (given : Option (List Part)) → Key name → IfSome given Keys → IfSome (with_part name value given) Keys
keys_with name value None key keys = tt
keys_with name value (Some ps) key keys = (key, keys)

script_keys : (words : List (List ℕ)) → Keys (map (λ name. (script, name)) words)
script_keys [] = tt
script_keys (word ∷ words) = (inr refl, script_keys words)

keys_step : (k : Word) (word : List ℕ) (words : List (List ℕ)) → IfSome (parts_from None words) Keys → ((name : List ℕ) → is_option name ≡ true → IfSome (parts_from (Some name) words) Keys)
    → IfSome (step None k word words (λ next. parts_from next words)) Keys
keys_step plain word words goes waits = keys_with script word (parts_from None words) (inr refl) goes
keys_step rest word words goes waits = script_keys words
keys_step unknown word words goes waits = tt
keys_step (option name (Some value)) word words goes waits = by (is_option name) refl
  where
    by : (b : Bool) → is_option name ≡ b → IfSome (if b then with_part name value (parts_from None words) else None) Keys
    by true known = keys_with name value (parts_from None words) (inl known) goes
    by false known = tt
keys_step (option name None) word words goes waits = by (is_option name) refl
  where
    by : (b : Bool) → is_option name ≡ b → IfSome (if b then parts_from (Some name) words else None) Keys
    by true known = waits name known
    by false known = tt

keys_waiting : (k : Word) (name word : List ℕ) (words : List (List ℕ)) → is_option name ≡ true → IfSome (parts_from None words) Keys → IfSome (step (Some name) k word words (λ next. parts_from next words)) Keys
keys_waiting plain name word words known goes = keys_with name word (parts_from None words) (inl known) goes
keys_waiting rest name word words known goes = tt
keys_waiting unknown name word words known goes = tt
keys_waiting (option other value) name word words known goes = tt

pub keys : (words : List (List ℕ)) → IfSome (parts_from None words) Keys × ((name : List ℕ) → is_option name ≡ true → IfSome (parts_from (Some name) words) Keys)
keys [] = (tt, λ name known. tt)
keys (word ∷ words) =
    let behind = keys words in
    (keys_step (word_of word) word words behind.0 behind.1, λ name known. keys_waiting (word_of word) name word words known behind.0)

-- ---- nothing has a default

abbrev NoDefaults : List Rule → Type 0
NoDefaults [] = Unit {0}
NoDefaults (a ∷ others) = (a.defaults ≡ []) × NoDefaults others

none_default : NoDefaults rules
none_default = (refl, (refl, (refl, (refl, (refl, (refl, (refl, tt)))))))

same_rows : (b : Bool) (rows : List Row) → (if b then rows else rows) ≡ rows
same_rows true rows = refl
same_rows false rows = refl

or_true : (b : Bool) (f : Kinds) → (if b || true then [] else f) ≡ []
or_true true f = refl
or_true false f = refl

kept : (c : List Rule) (rows : List Row) → NoDefaults c → fold with_default rows c ≡ rows
kept [] rows none = refl
kept (a ∷ others) rows none =
    ap (λ rs. fold with_default rs others) (ap (λ ds. if has_row a.id rows then rows else default_rows a.id (reading_by a) ds rows) none.0 ∙ same_rows (has_row a.id rows) rows)
    ∙ kept others rows none.1

faultless : (c : List Rule) (rows : List Row) → NoDefaults c → defaults_fault rows c ≡ []
unfolding defaults_fault
faultless [] rows none = refl
faultless (a ∷ others) rows none =
    ap (λ f. or_else f (defaults_fault (with_default rows a) others))
    (ap (λ ds. if has_row a.id rows || (length ds == 0) then [] else given_default_fault a ds) none.0 ∙ or_true (has_row a.id rows) _)
    ∙ faultless others (with_default rows a) none.1

-- ---- the whole parse

not_entered : (stop : Option (List ℕ × List (List ℕ))) → is_some (entered (built app) stop) ≡ false
not_entered None = refl
not_entered (Some p) = refl

none_below : (stop : Option (List ℕ × List (List ℕ))) → entered_fault (built app) stop ≡ []
none_below None = refl
none_below (Some p) = refl

pub fault_is : (words : List (List ℕ)) → fault_of app words ≡ fails rules (at [] None idle false) words
fault_is words =
    let stop = (walk rules [] nothing_held words).stopped in
    let end = (walk rules [] nothing_held words).held in
    let w = walk_fault (shape rules) [] (walk_from nothing_held) words in
    let s = settle_fault rules false end in
    ap₂ (λ has below. level_fault (shape rules) [] nothing_held words has below) (not_entered stop) (none_below stop)
    ∙ (ap (λ f. or_else w (or_else s (or_else f []))) (faultless rules (settled rules end).rows none_default)
    ∙ ap (or_else w) (or_else_nothing s))

pub matches_are : (words : List (List ℕ)) → matches_of app words ≡ ends rules (at [] None idle false) words
matches_are words = kept rules _ none_default

abbrev Whole : List (List ℕ) → Type 0
Whole words = Meets rules [] (parts words) (fails rules (at [] None idle false) words) (ends rules (at [] None idle false) words)

whole : (words : List (List ℕ)) → AllUtf8 words → Whole words
whole words text = bare rules reads [] (parts words) _ _ ((claims rules reads words text).0 [] None false)

-- the words of a command line are text
pub all_utf8 : {Z : Type 0} (words : List (String Z)) → AllUtf8 (map string_bytes words)
all_utf8 [] = tt
all_utf8 (word ∷ words) = (IsUtf8-string_bytes word, all_utf8 words)

-- what is found are the parts
pub finds : (words : List (List ℕ)) → AllUtf8 words → fault_of app words ≡ []
    → (ps : List Part) × (parts words ≡ Some ps) × ((name : List ℕ) → lookup name (matches_of app words) ≡ values_of name ps)
finds words text none = by (parts words) refl (whole words text) (keys words).0
  where
    by : (given : Option (List Part)) → parts words ≡ given → Meets rules [] given (fails rules (at [] None idle false) words) (ends rules (at [] None idle false) words) → IfSome given Keys
        → (ps : List Part) × (given ≡ Some ps) × ((name : List ℕ) → lookup name (matches_of app words) ≡ values_of name ps)
    by None is m ks = absurd (m (sym (fault_is words) ∙ none))
    by (Some ps) is m ks = (ps, refl, λ name. ap (lookup name) (matches_are words ∙ m.1) ∙ gathers rules reads ps [] ks (sym m.0 ∙ (sym (fault_is words) ∙ none)) name)

refused : (ps : List Part) → Keys ps → (parts_fault rules [] ps ≡ [] → ⊥) → meant (given_by ps) ≡ None
refused ps ks fault = few_or (all_few (given_by ps)) refl
  where
    few_or : (b : Bool) → all_few (given_by ps) ≡ b → meant (given_by ps) ≡ None
    few_or false e = many (given_by ps) e
    few_or true e = absurd (fault (unfailing rules reads ps [] ks (λ name known. (each ps name options e known, λ has. absurd (cc)))))

-- where something is wrong, the words have no meaning
pub refuses : (words : List (List ℕ)) → AllUtf8 words → (fault_of app words ≡ [] → ⊥) → meaning words ≡ None
refuses words text fault = by (parts words) refl (whole words text) (keys words).0
  where
    by : (given : Option (List Part)) → parts words ≡ given → Meets rules [] given (fails rules (at [] None idle false) words) (ends rules (at [] None idle false) words) → IfSome given Keys
        → option_and_then (λ ps. meant (given_by ps)) given ≡ None
    by None is m ks = refl
    by (Some ps) is m ks = refused ps ks (λ none. fault (fault_is words ∙ (m.0 ∙ none)))

or_default : {A B : Type 0} (f : A → B) (o : Option A) (d : B) → option_map_or f o d ≡ unwrap_or (option_map f o) d
or_default f None d = refl
or_default f (Some x) d = refl

-- the values that are found, by the rows
pub values_are : (m : ArgMatches) (name : List ℕ) → values_in m name ≡ lookup name (rows_of (found_of m))
values_are m name = or_default raw_values (matched_of (found_of m) name) [] ∙ ap (λ o. unwrap_or o []) (raw_values-rows (found_of m) name)

-- what a parse that succeeds has found
pub found_is : (m : ArgMatches) (a : App) (words : List (List ℕ)) → a ≡ app → AllUtf8 words → HasMatchesOf a words m → (is_simple_and_free a ≡ true → fault_of a words ≡ [])
    → (ps : List Part) × (parts words ≡ Some ps) × ((name : List ℕ) → values_in m name ≡ values_of name ps)
found_is m a words is text has fails_by =
    let none = subst (λ x. is_simple_and_free x ≡ true → fault_of x words ≡ []) is fails_by app_is_free in
    let rows = (subst (λ x. HasMatchesOf x words m) is has app_is_simple).0 in
    let f = finds words text none in
    (f.0, f.1, λ name. values_are m name ∙ (ap (lookup name) rows ∙ f.2 name))

-- and why one fails
pub refused_is : (e : Error) (a : App) (words : List (List ℕ)) → a ≡ app → AllUtf8 words → (is_simple_and_free a ≡ true → HasKind (fault_of a words) e) → (kind_of e ≡ kind.OutOfMemory → ⊥) → meaning words ≡ None
refused_is e a words is text fails_by other =
    refuses words text (λ none. by (subst (λ ks. HasKind ks e) none (subst (λ x. is_simple_and_free x ≡ true → HasKind (fault_of x words) e) is fails_by app_is_free)))
  where
    by : HasKind [] e → ⊥
    by (inl memory) = other memory
    by (inr h) = h
