-- Which argument `clap` takes for a name.
use Rattle.std.proofs.Common.{◌≡◌, ℕ, Bool, true, false, ◌||◌, ◌&&◌, List, [], ◌∷◌, ◌++◌, map, codes, Some, None, refl, ap, ◌∙◌}
use Rattle.std.specs.Prelude.{if◌then◌else◌, find, is_some, not}
use Rattle.std.specs.List.{list_any}
use Rattle.std.specs.Str.{bytes_eq}
use Rattle.std.proofs.lemmas.Slice.Eq.{bytes_eq-Decides}
use Rattle.clap.specs.Words.{Rule}
use Rattle.clap.specs.Walk.{arg_by_id, arg_by_index, arg_by_long, arg_by_short, has_long}
use Rattle.clap.specs.Simple.{filled, with_index, built, is_simple}
use Rattle.clap.specs.Faults.{is_simple_and_free}
use Rattle.jsh_words.specs.Parts.{options, is_option, script}
use Rattle.jsh_words.specs.Clap.{app, option_rule, script_rule}

-- an option as it is built
abbrev pub opt : List ℕ → Rule
opt name = filled (option_rule name)

-- the scripts as they are built
abbrev pub scripts : Rule
scripts = with_index 1 (filled script_rule)

abbrev pub rules : List Rule
rules = opt (codes "workers") ∷ opt (codes "budget") ∷ opt (codes "journal") ∷ opt (codes "startup") ∷ opt (codes "demo") ∷ opt (codes "replay") ∷ scripts ∷ []

pub are_rules : (built app).top.rules ≡ rules
are_rules = refl

pub has_no_subcommands : (built app).subs ≡ []
has_no_subcommands = refl

pub app_is_simple : is_simple app ≡ true
app_is_simple = refl

pub app_is_free : is_simple_and_free app ≡ true
app_is_free = refl

-- what is found among options, by tests that agree with their names
module _ (p : Rule → Bool) (name : List ℕ) (agrees : (option : List ℕ) → p (opt option) ≡ bytes_eq option name) where
  pub found : (options : List (List ℕ)) (more : List Rule) → list_any (λ option. bytes_eq option name) options ≡ true → find p (map opt options ++ more) ≡ Some (opt name)
  found [] more e = absurd (cc)
  found (o ∷ os) more e = by (bytes_eq o name) refl e (λ e'. found os more e')
    where
      by : (b : Bool) → bytes_eq o name ≡ b → (b || list_any (λ option. bytes_eq option name) os) ≡ true
          → (list_any (λ option. bytes_eq option name) os ≡ true → find p (map opt os ++ more) ≡ Some (opt name)) → find p (opt o ∷ (map opt os ++ more)) ≡ Some (opt name)
      by true is e' next = ap (λ b. if b then Some (opt o) else find p (map opt os ++ more)) (agrees o ∙ is) ∙ ap (λ n. Some (opt n)) ((bytes_eq-Decides o name).0 is)
      by false is e' next = ap (λ b. if b then Some (opt o) else find p (map opt os ++ more)) (agrees o ∙ is) ∙ next e'

  pub passed : (options : List (List ℕ)) (more : List Rule) → list_any (λ option. bytes_eq option name) options ≡ false → find p (map opt options ++ more) ≡ find p more
  passed [] more e = refl
  passed (o ∷ os) more e = by (bytes_eq o name) refl e (λ e'. passed os more e')
    where
      by : (b : Bool) → bytes_eq o name ≡ b → (b || list_any (λ option. bytes_eq option name) os) ≡ false
          → (list_any (λ option. bytes_eq option name) os ≡ false → find p (map opt os ++ more) ≡ find p more) → find p (opt o ∷ (map opt os ++ more)) ≡ find p more
      by true is e' next = absurd (cc)
      by false is e' next = ap (λ b. if b then Some (opt o) else find p (map opt os ++ more)) (agrees o ∙ is) ∙ next e'

or_false : (b : Bool) → (b || false) ≡ b
or_false true = refl
or_false false = refl

pub long_known : (name : List ℕ) → is_option name ≡ true → arg_by_long rules name ≡ Some (opt name)
long_known name e = found (λ a. not (is_some a.index) && has_long a name) name (λ option. or_false (bytes_eq option name)) options (scripts ∷ []) e

pub long_unknown : (name : List ℕ) → is_option name ≡ false → arg_by_long rules name ≡ None
long_unknown name e = passed (λ a. not (is_some a.index) && has_long a name) name (λ option. or_false (bytes_eq option name)) options (scripts ∷ []) e

pub id_known : (name : List ℕ) → is_option name ≡ true → arg_by_id rules name ≡ Some (opt name)
id_known name e = found (λ a. bytes_eq a.id name) name (λ option. refl) options (scripts ∷ []) e

pub id_script : arg_by_id rules script ≡ Some scripts
id_script = refl

pub index_script : arg_by_index rules 1 ≡ Some scripts
index_script = refl

pub short_unknown : (x : ℕ) → arg_by_short rules x ≡ None
short_unknown x = refl
