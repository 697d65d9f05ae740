-- What is in force, and how it comes and goes.
use Rattle.std.specs.Prelude.{ℕ, ◌+◌, ◌==◌, List, [], ◌∷◌, ◌++◌, Option, Some, None, Bool, false, not, filter, option_map}
use Rattle.std.specs.Option.{option_map_or}
use Rattle.jsh_tree.specs.contracts.name.NamePartialEq.TheImpl as name_comparison
use Rattle.jsh_tree.specs.declared.key.Key.{Key}
use Rattle.jsh_tree.specs.declared.key.Key.TheVariants as key
use Rattle.jsh_tree.specs.declared.key.Link.{Link}
use Rattle.jsh_core.specs.declared.generation.Live.{Live}
use Rattle.jsh_core.specs.State.{Generation}

-- the link of a declaration: its key, with the number of the generation that gave it
abbrev pub link_of : Live → Option Link
link_of live = option_map (λ number. record { key = live.key; generation = number }) live.given

-- the simple name that a declaration of a type, a method or a variable has
abbrev pub declared_name : Key → Option (List ℕ)
declared_name (key.OfType name) = Some name
declared_name (key.OfVar name) = Some name
declared_name (key.OfMethod name params) = Some name
declared_name (key.OfImport is_static parts on_demand) = None
declared_name (key.OfRun id) = None

abbrev pub has_name : List ℕ → Live → Bool
has_name name live = option_map_or (λ declared. name_comparison.ghosts.eq declared name) (declared_name live.key) false

-- the types, methods and variables in force that have this name
abbrev pub live_named : List ℕ → Generation → List Live
live_named name g = filter (has_name name) g.live

-- the generation with the next number, in which this declaration is in force too
abbrev pub with_live : Generation → Live → Generation
with_live g live = record { number = g.number + 1; live = g.live ++ live ∷ [] }

-- the generation with the next number, in which the declaration of this record isn't in force any more
abbrev pub without : Generation → ℕ → Generation
without g id = record { number = g.number + 1; live = filter (λ (live : Live). not (live.id == id)) g.live }

-- the generation with the next number, in which nothing is in force
abbrev pub emptied : Generation → Generation
emptied g = record { number = g.number + 1; live = [] }
