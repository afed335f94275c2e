-- What is on the squares of a best play before it is laid.
use Rattle.std.specs.Prelude.{ℕ, ◌+◌, List, [], length, map, nat_lt, Option, Some, None, if◌then◌else◌}
use Rattle.std.specs.List.{range_with_len}
use Rattle.ref_tiles.specs.declared.tiles.Tile.{Tile}
use Rattle.ref_board.specs.declared.directions.Dir.{Dir}
use Rattle.ref_board.specs.Lines.{place_of}
use Rattle.ref_board.specs.Cells.{tile_at}
use Rattle.ref_play.specs.Formed.{along}
use Rattle.game_bests.specs.declared.bests.TurnBest.{TurnBest}
use Rattle.game_bests.specs.declared.bests.TurnBest.TheVariants as best

-- what is on successive squares of a board
unfoldable pub cells_from : (board : List (Option Tile)) → (at : ℕ) → Dir → (many : ℕ) → List (Option Tile)
cells_from board at dir many = map (λ k. tile_at board (along dir at k)) (range_with_len 0 many)

-- what is on the squares of the text of a play; nothing if it leaves the board, which a best play does not
abbrev pub cells_on : (board : List (Option Tile)) → (at : ℕ) → Dir → (many : ℕ) → List (Option Tile)
cells_on board at dir many = if nat_lt 15 (place_of dir at + many) then [] else cells_from board at dir many

-- the same for a best play
abbrev pub cells_under : (board : List (Option Tile)) → TurnBest → List (Option Tile)
cells_under board best.NoTurn = []
cells_under board best.NotShown = []
cells_under board best.NoPlay = []
cells_under board (best.Best b) = cells_on board b.written.at b.written.dir (length b.written.word.items)

abbrev pub known_under : (board : List (Option Tile)) → Option TurnBest → List (Option Tile)
known_under board None = []
known_under board (Some b) = cells_under board b
