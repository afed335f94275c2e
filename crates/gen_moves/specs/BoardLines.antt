-- The lines of a board, as cells for the walk.
use Rattle.std.specs.Prelude.{◌≡◌, ◌↔◌, ℕ, ◌+◌, ◌<◌, true, List, length, Option, Some, None}
use Rattle.ref_tiles.specs.declared.rulebook.TheConstants.{SIDE}
use Rattle.ref_tiles.specs.declared.tiles.Tile.{Tile}
use Rattle.ref_board.specs.declared.directions.Dir.{Dir}
use Rattle.ref_board.specs.Lines.{square_at}
use Rattle.ref_board.specs.Cells.{tile_at}
use Rattle.ref_board.specs.Anchors.{IsAnchor}
use Rattle.gen_cross.specs.Values.{IsMask}
use Rattle.gen_line.specs.declared.cells.Cell.{Cell}
use Rattle.gen_line.specs.declared.cells.Cell.TheVariants.{Old, Free}
use Rattle.gen_line.specs.declared.cells.Open.{Open}
use Rattle.gen_line.specs.Cells.{cell_at}

-- the cell of a square
pub record IsCellOf (words : List (List ℕ)) (d : Dir) (board : List (Option Tile)) (square : ℕ) (c : Cell) : Type 0 where
  pub old : (tile : Tile) → tile_at board square ≡ Some tile → c ≡ Old (tile.shown.index + 1)
  pub free : tile_at board square ≡ None → (m : Open) × (c ≡ Free m) × ((m.anchor ≡ true) ↔ IsAnchor board square) × IsMask words d board square m.mask

-- the cells of a line of the board
pub record IsLineOf (words : List (List ℕ)) (d : Dir) (board : List (Option Tile)) (line : ℕ) (cells : List Cell) : Type 0 where
  pub size : length cells ≡ SIDE
  pub old : (i : ℕ) (tile : Tile) → i < SIDE → tile_at board (square_at d line i) ≡ Some tile → cell_at cells i ≡ Old (tile.shown.index + 1)
  pub free : (i : ℕ) → i < SIDE → tile_at board (square_at d line i) ≡ None
      → (m : Open) × (cell_at cells i ≡ Free m) × ((m.anchor ≡ true) ↔ IsAnchor board (square_at d line i)) × IsMask words d board (square_at d line i) m.mask
