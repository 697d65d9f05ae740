-- Variables: each link has a cell of its own.
use Rattle.std.specs.Prelude.{ℕ, suc, List, [], ◌∷◌, Option, Some, None, if◌then◌else◌, slice_get, slice_set, option_map}
use Rattle.std.specs.Option.{option_and_then, option_map_or, option_or}
use Rattle.jsh_tree.specs.declared.key.Link.{Link}
use Rattle.jsh_tree.specs.contracts.key.LinkPartialEq.TheImpl as link_comparison
use Rattle.jsh_text.specs.declared.value.Value.{Value}
use Rattle.jsh_core.specs.declared.world.Cell.{Cell}

-- the place of a link's cell: of the last one that was made for it
abbrev pub cell_place : Link → List Cell → Option ℕ
cell_place link [] = None
cell_place link (cell ∷ cells) =
    option_or (option_map suc (cell_place link cells)) (if link_comparison.ghosts.eq cell.link link then Some 0 else None)

-- the value of a link's variable
abbrev pub cell_value : Link → List Cell → Option Value
cell_value link cells = option_map (λ (cell : Cell). cell.value) (option_and_then (slice_get cells) (cell_place link cells))

-- the cell at this place gets a value
abbrev pub set_at : ℕ → Value → List Cell → List Cell
set_at place value cells = option_map_or (λ (cell : Cell). slice_set cells place (record cell { value = value })) (slice_get cells place) cells

-- a link's variable gets a value; where it has no cell any more, nothing comes of it
abbrev pub set_cell : Link → Value → List Cell → List Cell
set_cell link value cells = option_map_or (λ place. set_at place value cells) (cell_place link cells) cells
