-- Cross values: for each direction of play and each square, the letters that may be put there and the points beside it.
use Rattle.std.specs.Prelude.{◌≡◌, ◌↔◌, ℕ, ◌<◌, Bool, true, false, List, All, replicate, slice_index_or, sum_by, Option, None}
use Rattle.std.specs.List.{Contains}
use Rattle.ref_tiles.specs.declared.rulebook.TheConstants.{SQUARES}
use Rattle.ref_tiles.specs.declared.tiles.Tile.{Tile}
use Rattle.ref_tiles.specs.declared.letters.Letter.{Letter}
use Rattle.ref_tiles.specs.declared.rulebook.Rules.{Rules}
use Rattle.ref_tiles.specs.Faces.{letter_tile, blank_tile, letter_a}
use Rattle.ref_board.specs.declared.directions.Dir.{Dir}
use Rattle.ref_board.specs.declared.directions.Dir.TheVariants.{Across, Down}
use Rattle.ref_board.specs.Lines.{other_dir}
use Rattle.ref_board.specs.Cells.{tile_at, holds}
use Rattle.ref_play.specs.Crosses.{cross_runs, cross_words, old_points}
use Rattle.gen_cross.specs.declared.crosses.Value.{Value}
use Rattle.gen_cross.specs.declared.crosses.Cross.{Cross}

-- the letters that make listed words across a play through an empty square
abbrev pub IsMask : List (List ℕ) → Dir → List (Option Tile) → ℕ → List Bool → Type 0
IsMask words d board square mask =
    (l : Letter) → (slice_index_or mask l.index false ≡ true) ↔ All (Contains words) (cross_words (other_dir d) board square (letter_tile l))

-- no letter and no points
abbrev pub no_value : Value
no_value = record { mask = replicate 26 false; side = 0 }

-- the points of the old tiles of the run through an empty square, once any tile lies there
abbrev pub side_points : Rules → Dir → List (Option Tile) → ℕ → ℕ
side_points rules d board square = sum_by (old_points rules board) (cross_runs (other_dir d) board square (blank_tile letter_a))

-- The value of a square for a play of a direction. On an empty square it gives the letters that make listed words across it, and
-- the points beside it; on any other it is nothing.
pub record IsValue (rules : Rules) (words : List (List ℕ)) (d : Dir) (board : List (Option Tile)) (square : ℕ) (v : Value) : Type 0 where
  pub occupied : holds board square ≡ true → v ≡ no_value
  pub mask : tile_at board square ≡ None → IsMask words d board square v.mask
  pub side : tile_at board square ≡ None → v.side ≡ side_points rules d board square

-- the values of all squares for a play of a direction
abbrev pub AreValues : Rules → List (List ℕ) → Dir → List (Option Tile) → List Value → Type 0
AreValues rules words d board values = (square : ℕ) → square < SQUARES → IsValue rules words d board square (slice_index_or values square no_value)

-- the value of a square for a direction
abbrev pub value_at : Cross → Dir → ℕ → Value
value_at cross Across square = slice_index_or cross.across square no_value
value_at cross Down square = slice_index_or cross.down square no_value

-- all values are those of the board
abbrev pub IsRight : Rules → List (List ℕ) → List (Option Tile) → Cross → Type 0
IsRight rules words board cross = (d : Dir) (square : ℕ) → square < SQUARES → IsValue rules words d board square (value_at cross d square)

-- a cross has the masks of a board
abbrev pub HasMasks : List (List ℕ) → List (Option Tile) → Cross → Type 0
HasMasks words board cross = (d : Dir) (square : ℕ) → square < SQUARES → tile_at board square ≡ None → IsMask words d board square (value_at cross d square).mask
