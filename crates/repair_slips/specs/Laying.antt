-- The tiles of a play, laid from its square on over the tiles on the board.
use Rattle.std.specs.Prelude.{ℕ, ◌-◌, ◌==◌, ◌&&◌, not, Bool, true, false, nat_lt, List, [], ◌∷◌, length, map, Option, if◌then◌else◌}
use Rattle.std.specs.List.{filter, range_with_len}
use Rattle.std.specs.Str.{bytes_eq}
use Rattle.ref_tiles.specs.declared.tiles.Tile.{Tile}
use Rattle.ref_tiles.specs.declared.symbols.Symbol.{Symbol}
use Rattle.ref_tiles.specs.declared.symbols.Symbol.TheVariants as symbol
use Rattle.ref_tiles.specs.Symbols.{byte_of}
use Rattle.ref_board.specs.declared.directions.Dir.{Dir}
use Rattle.ref_board.specs.Lines.{line_of, place_of}
use Rattle.ref_board.specs.Cells.{occupied_on}
use Rattle.repair_changes.specs.declared.slips.Slip.{Slip}
use Rattle.repair_changes.specs.declared.slips.Slip.TheVariants as slip
use Rattle.repair_changes.specs.declared.slips.SpellingSlip.TheVariants as spelling

abbrev pub is_tile : Symbol → Bool
is_tile symbol.Dot = false
is_tile (symbol.Letter l) = true
is_tile (symbol.Blank l) = true

-- the tiles of a text: its symbols that are not dots
unfoldable pub tiles_of : (word : List Symbol) → List Symbol
tiles_of word = filter is_tile word

-- which of the squares of a line from a place on have a tile
unfoldable pub occupied_from : List (Option Tile) → Dir → (line place : ℕ) → List Bool
occupied_from board d line place = map (occupied_on d board line) (range_with_len place (15 - place))

-- The text of tiles that lie on the free squares, one after another: a dot for each square that has a tile, up to the free square
-- after the last tile.
unfoldable pub laid_over : (occupied : List Bool) → (tiles : List Symbol) → List Symbol
laid_over [] tiles = []
laid_over (true ∷ rest) tiles = symbol.Dot ∷ laid_over rest tiles
laid_over (false ∷ rest) [] = []
laid_over (false ∷ rest) (tile ∷ tiles) = tile ∷ laid_over rest tiles

-- the text of the play's own tiles from its square on
abbrev pub laid_text : List (Option Tile) → Dir → (at : ℕ) → (word : List Symbol) → List Symbol
laid_text board d at word = laid_over (occupied_from board d (line_of d at) (place_of d at)) (tiles_of word)

-- whether two texts have the same symbols
abbrev pub same_text : List Symbol → List Symbol → Bool
same_text word other = bytes_eq (map byte_of word) (map byte_of other)

-- whether a text is proper, has as many tiles as another, and is not that one
abbrev pub is_other_laying : (word laid : List Symbol) → Bool
is_other_laying word laid = nat_lt 0 (length laid) && length (tiles_of laid) == length (tiles_of word) && not (same_text laid word)

abbrev pub laid_as : (word laid : List Symbol) → List Slip
laid_as word laid = if is_other_laying word laid then slip.Spelling (spelling.Laid laid) ∷ [] else []

-- that text, if each tile finds a free square and it is not the written text
unfoldable pub laying_slips : List (Option Tile) → Dir → (at : ℕ) → (word : List Symbol) → List Slip
laying_slips board d at word = laid_as word (laid_text board d at word)
