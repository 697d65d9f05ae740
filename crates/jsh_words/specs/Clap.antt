-- What `clap` is asked to read, and what it found.
use Rattle.std.specs.Prelude.{ℕ, true, List, [], map, codes, Some}
use Rattle.std.specs.Option.{option_map_or}
use Rattle.std.specs.Borrow.{Bor}
use Rattle.clap.specs.Words.{App, Rule, raw_values, matched_of, found_of, new_app, new_rule, with_rule}
use Rattle.clap.specs.Simple.{on_top}
use Rattle.clap.specs.declared.builder.action.ArgAction.TheVariants.{Set, Append}
use Rattle.clap.specs.declared.parser.matches.ArgMatches.{ArgMatches}
use Rattle.jsh_words.specs.Parts.{script}

-- an option that takes one text
abbrev pub option_rule : List ℕ → Rule
option_rule name = record (new_rule name) { long = Some name; action = Some Set }

-- the last positional, which takes several texts
abbrev pub script_rule : Rule
script_rule = record (new_rule script) { action = Some Append }

-- the command before it has arguments
abbrev pub bare_app : App
bare_app = on_top (λ s. record s { no_binary_name = true; disable_help_flag = true }) (new_app (codes "jsh"))

-- the command
abbrev pub app : App
app =
    with_rule (with_rule (with_rule (with_rule (with_rule (with_rule (with_rule bare_app
    (option_rule (codes "workers"))) (option_rule (codes "budget"))) (option_rule (codes "journal"))) (option_rule (codes "startup")))
    (option_rule (codes "demo"))) (option_rule (codes "replay"))) script_rule

-- the texts behind references
abbrev pub texts : List (Bor (List ℕ)) → List (List ℕ)
texts = map (λ text. text.now)

-- the values that it found under a name
abbrev pub values_in : ArgMatches → List ℕ → List (List ℕ)
values_in matches name = option_map_or raw_values (matched_of (found_of matches) name) []
