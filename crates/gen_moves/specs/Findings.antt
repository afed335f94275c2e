-- What a whole board gives, line by line, in both directions.
use Rattle.std.specs.Prelude.{ℕ, Bool, List, [], ◌∷◌, ◌++◌, Option, pos, if◌then◌else◌}
use Rattle.std.specs.List.{flat_map, range_with_len}
use Rattle.ref_tiles.specs.declared.rulebook.TheConstants.{SIDE}
use Rattle.ref_tiles.specs.declared.tiles.Tile.{Tile}
use Rattle.ref_tiles.specs.declared.rulebook.Rules.{Rules}
use Rattle.ref_board.specs.declared.directions.Dir.{Dir}
use Rattle.ref_board.specs.declared.directions.Dir.TheVariants.{Across, Down}
use Rattle.ref_play.specs.Directions.{is_wanted}
use Rattle.ref_play.specs.Scores.{score_of}
use Rattle.ref_play.specs.Best.{Given}
use Rattle.gen_line.specs.declared.cells.Cell.{Cell}
use Rattle.gen_line.specs.Model.{line_moves}
use Rattle.gen_moves.specs.LineTiles.{tiles_of}

-- what a line gives for the entries of a move
unfoldable pub reported : Rules → List (Option Tile) → Dir → ℕ → List ℕ → List Given
reported rules board d line y =
    if is_wanted board d (tiles_of d line y) then record { dir = d; tiles = tiles_of d line y; score = pos (score_of rules board (tiles_of d line y)) } ∷ [] else []

-- what a line gives
abbrev pub given_on : Rules → List (Option Tile) → (List ℕ → Bool) → (Dir → ℕ → List Cell) → List ℕ → Dir → ℕ → List Given
given_on rules board g cells rack d line = flat_map (reported rules board d line) (line_moves g (cells d line) rack)

-- what all lines of a direction give
abbrev pub given_along : Rules → List (Option Tile) → (List ℕ → Bool) → (Dir → ℕ → List Cell) → List ℕ → Dir → List Given
given_along rules board g cells rack d = flat_map (given_on rules board g cells rack d) (range_with_len 0 SIDE)

-- what a board gives
unfoldable pub given_by : Rules → List (Option Tile) → (List ℕ → Bool) → (Dir → ℕ → List Cell) → List ℕ → List Given
given_by rules board g cells rack = given_along rules board g cells rack Across ++ given_along rules board g cells rack Down
