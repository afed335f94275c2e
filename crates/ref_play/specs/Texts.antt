-- The text of a play: symbols on successive squares of a line, the tiles that it puts down, and its first fault.
use Rattle.std.specs.Prelude.{ℕ, ◌+◌, ◌==◌, ◌||◌, not, Bool, true, false, List, [], ◌∷◌, length, map, Option, Some, None, nat_lt}
use Rattle.std.specs.List.{list_all, flat_map, zip, range_with_len}
use Rattle.first_faults.specs.Checks.{fails, first_fault}
use Rattle.ref_tiles.specs.declared.tiles.Tile.{Tile}
use Rattle.ref_tiles.specs.declared.symbols.Symbol.{Symbol}
use Rattle.ref_tiles.specs.declared.symbols.Symbol.TheVariants as symbol
use Rattle.ref_tiles.specs.Faces.{letter_tile, blank_tile}
use Rattle.ref_board.specs.declared.directions.Dir.{Dir}
use Rattle.ref_board.specs.Lines.{place_of}
use Rattle.ref_board.specs.Cells.{tile_at}
use Rattle.ref_play.specs.declared.placed.Placed.{Placed}
use Rattle.ref_play.specs.declared.faults.PlayFault.{PlayFault}
use Rattle.ref_play.specs.declared.faults.PlayFault.TheVariants as fault
use Rattle.ref_play.specs.Formed.{along}
use Rattle.ref_board.specs.Anchors.{follows_tile, precedes_tile}

-- the squares in a direction from the first one on
abbrev pub squares_from : Dir → ℕ → ℕ → List ℕ
squares_from d at len = map (along d at) (range_with_len 0 len)

-- each symbol of a text with the square that it lies on
unfoldable pub text_cells : Dir → ℕ → List Symbol → List (ℕ × Symbol)
text_cells d at word = zip (squares_from d at (length word)) word

-- whether a symbol agrees with what lies on its square: a dot stands for a tile there, and a letter in either case
-- for a new tile, or for a tile there that shows it
abbrev pub symbol_fits : Option Tile → Symbol → Bool
symbol_fits None symbol.Dot = false
symbol_fits None (symbol.Letter l) = true
symbol_fits None (symbol.Blank l) = true
symbol_fits (Some tile) symbol.Dot = true
symbol_fits (Some tile) (symbol.Letter l) = l.index == tile.shown.index
symbol_fits (Some tile) (symbol.Blank l) = l.index == tile.shown.index

-- the new tile that a symbol puts on an empty square
abbrev pub tile_of : Option Tile → Symbol → Option Tile
tile_of None symbol.Dot = None
tile_of None (symbol.Letter l) = Some (letter_tile l)
tile_of None (symbol.Blank l) = Some (blank_tile l)
tile_of (Some tile) symbol = None

abbrev pub placed_on : ℕ → Option Tile → List Placed
placed_on square None = []
placed_on square (Some tile) = record { square = square; tile = tile } ∷ []

abbrev pub fits_board : List (Option Tile) → ℕ × Symbol → Bool
fits_board board cell = symbol_fits (tile_at board cell.0) cell.1

abbrev pub new_tiles : List (Option Tile) → ℕ × Symbol → List Placed
new_tiles board cell = placed_on cell.0 (tile_of (tile_at board cell.0) cell.1)

-- the placement that a text names: its symbols that lie on empty squares
unfoldable pub placement_of : List (Option Tile) → Dir → ℕ → List Symbol → List Placed
placement_of board d at word = flat_map (new_tiles board) (text_cells d at word)

unfoldable pub mismatches : List (Option Tile) → Dir → ℕ → List Symbol → Bool
mismatches board d at word = not (list_all (fits_board board) (text_cells d at word))

-- a tile lies directly before or after the text, which then does not cover its whole run
unfoldable pub is_open_ended : List (Option Tile) → Dir → ℕ → List Symbol → Bool
is_open_ended board d at word = follows_tile d board at || precedes_tile d board at (length word)

-- the first fault of a text; none if it names a placement and covers its whole run
unfoldable pub text_fault : List (Option Tile) → Dir → ℕ → List Symbol → Option PlayFault
text_fault board d at word =
    first_fault (
    fails (nat_lt 15 (place_of d at + length word)) fault.OffBoard
    ∷ fails (mismatches board d at word) fault.Mismatch
    ∷ fails (length (placement_of board d at word) == 0) fault.NoNewTile
    ∷ fails (nat_lt 7 (length (placement_of board d at word))) fault.TooManyTiles
    ∷ fails (is_open_ended board d at word) fault.NotWhole
    ∷ [])
