-- What the moves of a line give a sink, and the lines of a whole board.
use Rattle.std.specs.Prelude.{◌≡◌, ℕ, ◌<◌, ◌≤◌, true, false, List, [], length, slice_index_or, Option, Some, None}
use Rattle.ref_tiles.specs.declared.rulebook.TheConstants.{SIDE}
use Rattle.ref_tiles.specs.declared.tiles.Tile.{Tile}
use Rattle.ref_tiles.specs.declared.rulebook.Rules.{Rules}
use Rattle.ref_board.specs.declared.directions.Dir.{Dir}
use Rattle.ref_board.specs.declared.directions.Dir.TheVariants.{Across, Down}
use Rattle.ref_play.specs.declared.plays.Play.{Play}
use Rattle.ref_play.specs.Directions.{is_wanted, RunsAlong}
use Rattle.ref_play.specs.Legality.{IsLegal}
use Rattle.ref_play.specs.Best.{Given}
use Rattle.gen_line.specs.declared.cells.Cell.{Cell}
use Rattle.gen_line.specs.Walk.{add_all}
use Rattle.gen_moves.specs.LineTiles.{line_tiles, placement_of}
use Rattle.gen_moves.specs.Findings.{reported}

-- a line has at least one new tile, and if there are not too many, they are a legal play with its run along the line
abbrev pub IsFit : List (Option Tile) → Dir → ℕ → List (Option Tile) → Type 0
IsFit board d line tiles =
    (line < SIDE) × ((1 ≤ length (placement_of d line tiles))
    × (length (placement_of d line tiles) ≤ 7 → IsLegal board (placement_of d line tiles) × RunsAlong d board (placement_of d line tiles)))

-- the entries of a move stand for such tiles
abbrev pub IsFitMove : List (Option Tile) → Dir → ℕ → List ℕ → Type 0
IsFitMove board d line y = IsFit board d line (line_tiles y)

-- a sink's items after the entries of a line are given to it
abbrev pub report : Rules → List (Option Tile) → Dir → ℕ → (List Given → Given → List Given) → List Given → List ℕ → List Given
report rules board d line add items y = add_all add items (reported rules board d line y)

-- the play of the tiles of a line, if it is wanted
abbrev pub PlayIs : List (Option Tile) → Dir → ℕ → List (Option Tile) → Option Play → Type 0
PlayIs board d line tiles None = is_wanted board d (placement_of d line tiles) ≡ false
PlayIs board d line tiles (Some play) = (is_wanted board d (placement_of d line tiles) ≡ true) × (play.dir ≡ d) × (play.tiles.items ≡ placement_of d line tiles)

-- the lines of a board, one direction after the other
abbrev pub both_cells : List (List Cell) → List (List Cell) → Dir → ℕ → List Cell
both_cells across down Across line = slice_index_or across line []
both_cells across down Down line = slice_index_or down line []
