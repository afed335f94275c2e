-- The tiles that are not on the board.
use Rattle.std.specs.Prelude.{ℕ, ◌-◌, ◌==◌, Bool, false, List, map, Option, Some, None, slice_index, count_by, sum_by}
use Rattle.std.specs.List.{range_with_len}
use Rattle.ref_tiles.specs.declared.tiles.Tile.{Tile}
use Rattle.ref_tiles.specs.declared.rulebook.Rules.{Rules}
use Rattle.ref_tiles.specs.Kinds.{number_of}

-- whether a tile of a kind lies on a square, by the number of the kind
abbrev pub is_of : ℕ → Option Tile → Bool
is_of number None = false
is_of number (Some tile) = number_of tile.kind == number

-- the number of tiles of a kind that are not on the board: those of the game minus those on the board, or 0 if that is negative
unfoldable pub off_board : Rules → List (Option Tile) → (number : ℕ) → ℕ
off_board rules board number = slice_index rules.counts number - count_by (is_of number) board

-- how many tiles of each of the first kinds are not on the board, A to Z and then blanks
unfoldable pub kinds_off : Rules → List (Option Tile) → (kinds : ℕ) → List ℕ
kinds_off rules board kinds = map (off_board rules board) (range_with_len 0 kinds)

-- the number of tiles of all kinds that are not on the board
unfoldable pub all_off : Rules → List (Option Tile) → (kinds : ℕ) → ℕ
all_off rules board kinds = sum_by (off_board rules board) (range_with_len 0 kinds)
