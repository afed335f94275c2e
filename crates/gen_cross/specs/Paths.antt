-- The path of a word across a play, read backwards: the labels after an empty square of the line, the label that is put
-- there, and the labels before it.
use Rattle.std.specs.Prelude.{ℕ, zero, suc, ◌+◌, ◌-◌, List, [], ◌∷◌, Option, Some, None}
use Rattle.ref_tiles.specs.declared.tiles.Tile.{Tile}
use Rattle.ref_board.specs.declared.directions.Dir.{Dir}
use Rattle.ref_board.specs.Lines.{square_at}
use Rattle.ref_board.specs.Cells.{tile_at}
use Rattle.gen_cross.specs.declared.stretches.Stretch.{Stretch}

-- the label of the letter that a tile shows, 1 for A to 26 for Z; 0 if there is no tile
abbrev pub label_of_tile : Option Tile → ℕ
label_of_tile None = 0
label_of_tile (Some tile) = tile.shown.index + 1

abbrev pub label_on : List (Option Tile) → ℕ → ℕ
label_on board square = label_of_tile (tile_at board square)

-- the values of a function at successive places, the last place first
abbrev pub down : (ℕ → ℕ) → ℕ → ℕ → List ℕ
down f first zero = []
down f first (suc n) = f (first + n) ∷ down f first n

-- the labels of successive places of a line, the last place first
unfoldable pub labels_down : List (Option Tile) → Dir → ℕ → ℕ → ℕ → List ℕ
labels_down board d line first n = down (λ place. label_on board (square_at d line place)) first n

-- the labels of a stretch, read backwards
abbrev pub labels_of : List (Option Tile) → Stretch → List ℕ
labels_of board stretch = labels_down board stretch.dir stretch.line stretch.first (stretch.end - stretch.first)
