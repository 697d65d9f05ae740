-- Where a link's cell is.
use Rattle.std.proofs.Common.{◌≡◌, ℕ, suc, ◌+◌, ◌<◌, Bool, true, false, List, [], ◌∷◌, ◌++◌, Option, None, Some, length, take, get_or, refl, ap, ◌∙◌, arith}
use Rattle.std.specs.Prelude.{option_map, if◌then◌else◌}
use Rattle.std.proofs.lemmas.List.{length-take-le, take_more}
use Rattle.std.specs.Option.{option_or}
use Rattle.jsh_tree.specs.declared.key.Link.{Link}
use Rattle.jsh_tree.specs.contracts.key.LinkPartialEq.TheImpl as link_comparison
use Rattle.jsh_core.specs.declared.world.Cell.{Cell}
use Rattle.jsh_core.specs.Cells.{cell_place}

abbrev is_of : Link → Cell → Bool
is_of link cell = link_comparison.ghosts.eq cell.link link

-- the last cell is the link's
pub cell_place-last : (link : Link) (cells : List Cell) (cell : Cell) → is_of link cell ≡ true → cell_place link (cells ++ cell ∷ []) ≡ Some (length cells)
cell_place-last link [] cell is = rw is refl
cell_place-last link (first ∷ cells) cell is = rw (cell_place-last link cells cell is) refl

-- the last cell is another link's
pub cell_place-other : (link : Link) (cells : List Cell) (cell : Cell) → is_of link cell ≡ false → cell_place link (cells ++ cell ∷ []) ≡ cell_place link cells
cell_place-other link [] cell is = rw is refl
cell_place-other link (first ∷ cells) cell is =
    ap (λ (o : Option ℕ). option_or (option_map suc o) (if is_of link first then Some 0 else None)) (cell_place-other link cells cell is)

-- the cell is the link's, and no later one is
pub cell_place-found : (link : Link) (cells : List Cell) (n : ℕ) (d : Cell) → n < length cells → is_of link (get_or cells n d) ≡ true →
    cell_place link cells ≡ cell_place link (take (n + 1) cells) → cell_place link cells ≡ Some n
cell_place-found link cells n d within same found =
    let count : length (take n cells) ≡ n = length-take-le n cells (omega arith) in
    found ∙ ap (cell_place link) (take_more cells n d within) ∙ cell_place-last link (take n cells) (get_or cells n d) same ∙ ap Some count

-- the cell is another link's
pub cell_place-before : (link : Link) (cells : List Cell) (n : ℕ) (d : Cell) → n < length cells → is_of link (get_or cells n d) ≡ false →
    cell_place link cells ≡ cell_place link (take (n + 1) cells) → cell_place link cells ≡ cell_place link (take n cells)
cell_place-before link cells n d within other found =
    found ∙ ap (cell_place link) (take_more cells n d within) ∙ cell_place-other link (take n cells) (get_or cells n d) other
