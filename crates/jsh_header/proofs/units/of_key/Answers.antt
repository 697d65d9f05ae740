use Rattle.std.proofs.Common.{◌≡◌, Some, sym, ◌∙◌, ap}
use Rattle.jsh_closure.specs.Closure.{places_at}
use Rattle.jsh_header.specs.Units.{name_of}
use Rattle.jsh_header.proofs.Naming.{found_at, found_by_name}
use Rattle.jsh_header.proofs.units.of_key.Goals as goal

pub returns-in-Some : goal.returns-in-Some
returns-in-Some c =
    c.first_among.ensures
    ∙ ap (found_at c.args.units.now c.args.wanted.now) (c.places_found.ensures ∙ ap places_at c.get.ensures.value)
    ∙ found_by_name c.args.units.now c.args.places.now c.args.wanted.now c.in-Some.name.now c.requires (sym c.in-Some.ensures)
