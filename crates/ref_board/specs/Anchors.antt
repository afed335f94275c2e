-- Anchors: the squares beside the tiles of a board, of which each play covers one (Andrew Appel and Guy Jacobson, The
-- World's Fastest Scrabble Program, 1988).
use Rattle.std.specs.Prelude.{◌≡◌, ℕ, ◌+◌, ◌-◌, ◌&&◌, ◌||◌, Bool, true, List, Option, None, nat_lt, ◌⊎◌}
use Rattle.ref_tiles.specs.declared.tiles.Tile.{Tile}
use Rattle.ref_board.specs.declared.directions.Dir.{Dir}
use Rattle.ref_board.specs.declared.directions.Dir.TheVariants.{Across, Down}
use Rattle.ref_board.specs.Lines.{line_of, place_of}
use Rattle.ref_board.specs.Cells.{tile_at, holds, HasNoTile, occupied_on}

-- 8H, in row 7 and column 7 from 0
abbrev pub centre : ℕ
centre = 112

-- two squares side by side in a row or a column
abbrev pub AreBeside : ℕ → ℕ → Type 0
AreBeside a b =
    (d : Dir) × (line_of d a ≡ line_of d b) × ((place_of d a + 1 ≡ place_of d b) ⊎ (place_of d b + 1 ≡ place_of d a))

-- an empty square orthogonally beside a tile; on an empty board, only the centre
pub record IsAnchor (board : List (Option Tile)) (square : ℕ) : Type 0 where
  pub free : tile_at board square ≡ None
  pub near : (HasNoTile board × (square ≡ centre)) ⊎ ((other : ℕ) × AreBeside square other × (holds board other ≡ true))

-- whether the square before it on its line of the direction has a tile
abbrev pub follows_tile : Dir → List (Option Tile) → ℕ → Bool
follows_tile d board square =
    nat_lt 0 (place_of d square) && occupied_on d board (line_of d square) (place_of d square - 1)

-- whether the place at this distance after it on the line has a tile
abbrev pub precedes_tile : Dir → List (Option Tile) → ℕ → ℕ → Bool
precedes_tile d board square len =
    nat_lt (place_of d square + len) 15 && occupied_on d board (line_of d square) (place_of d square + len)

-- whether an orthogonal neighbour of the square has a tile
abbrev pub touches : List (Option Tile) → ℕ → Bool
touches board square =
    follows_tile Across board square || precedes_tile Across board square 1 || follows_tile Down board square || precedes_tile Down board square 1
