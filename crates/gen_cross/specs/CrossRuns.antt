-- The run through a square, once a tile lies there: only the square, or the square together with the tiles before and after it.
use Rattle.std.specs.Prelude.{◌≡◌, ℕ, ◌+◌, ◌<◌, ◌≤◌, List, length, Option, Some}
use Rattle.ref_tiles.specs.declared.rulebook.TheConstants.{SIDE, SQUARES}
use Rattle.ref_tiles.specs.declared.tiles.Tile.{Tile}
use Rattle.ref_board.specs.Lines.{place_of}
use Rattle.ref_board.specs.Cells.{with_tile}
use Rattle.ref_board.specs.Runs.{IsRunThrough}
use Rattle.ref_play.specs.declared.runs.Run.{Run}

-- the run through a square of a board once any tile lies there, which is the same for each tile
pub record IsRunWith (board : List (Option Tile)) (square : ℕ) (run : Run) : Type 0 where
  pub size : length board ≡ SQUARES
  pub on_board : square < SQUARES
  pub low : place_of run.dir run.start ≤ place_of run.dir square
  pub high : place_of run.dir square < place_of run.dir run.start + run.len
  pub inside : place_of run.dir run.start + run.len ≤ SIDE
  pub through : (tile : Tile) → IsRunThrough (with_tile board square (Some tile)) run.dir square run.start run.len
