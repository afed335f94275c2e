-- A board as a map from squares to tiles: a list of 225 places, each with a tile or with none.
use Rattle.std.specs.Prelude.{◌≡◌, ℕ, ◌/◌, ◌%◌, ◌<◌, Bool, List, map, Option, None, replicate, slice_index_or, slice_set, is_some}
use Rattle.std.specs.List.{range_with_len}
use Rattle.ref_tiles.specs.declared.tiles.Tile.{Tile}
use Rattle.ref_board.specs.declared.directions.Dir.{Dir}
use Rattle.ref_board.specs.Lines.{square_in, square_at}

-- no tile on any square
unfoldable pub empty_board : List (Option Tile)
empty_board = replicate 225 None

-- the tile on a square
abbrev pub tile_at : List (Option Tile) → ℕ → Option Tile
tile_at board square = slice_index_or board square None

-- whether a tile lies on a square
abbrev pub holds : List (Option Tile) → ℕ → Bool
holds board square = is_some (tile_at board square)

-- the board with the given content of one square
abbrev pub with_tile : List (Option Tile) → ℕ → Option Tile → List (Option Tile)
with_tile board square tile = slice_set board square tile

-- no square has a tile
abbrev pub HasNoTile : List (Option Tile) → Type 0
HasNoTile board = (square : ℕ) → tile_at board square ≡ None

-- which places of a line have a tile
abbrev pub occupied_on : Dir → List (Option Tile) → ℕ → ℕ → Bool
occupied_on d board line place = holds board (square_at d line place)

-- the square in the row of its column and the column of its row
abbrev pub mirrored : ℕ → ℕ
mirrored square = square_in (square % 15) (square / 15)

-- the board with its rows and columns exchanged: each square has the tile of its mirror square
unfoldable pub transposed : List (Option Tile) → List (Option Tile)
transposed board = map (λ square. tile_at board (mirrored square)) (range_with_len 0 225)

-- each row has the tiles of the column with its number
abbrev pub AreTransposed : List (Option Tile) → List (Option Tile) → Type 0
AreTransposed a b = (row column : ℕ) → row < 15 → column < 15 → tile_at b (square_in row column) ≡ tile_at a (square_in column row)
