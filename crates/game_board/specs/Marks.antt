-- How a square is written.
use Rattle.std.specs.Prelude.{ℕ, List, Option, Some, None}
use Rattle.ref_tiles.specs.declared.tiles.Tile.{Tile}
use Rattle.ref_tiles.specs.declared.premiums.Premium.{Premium}
use Rattle.ref_tiles.specs.declared.premiums.Premium.TheVariants as premium
use Rattle.ref_tiles.specs.declared.rulebook.Rules.{Rules}
use Rattle.ref_tiles.specs.Rulebook.{premium_at}
use Rattle.ref_tiles.specs.Symbols.{byte_of}
use Rattle.ref_play.specs.Notations.{symbol_by}
use Rattle.ref_board.specs.Cells.{tile_at}

-- the mark of a premium: '=' a triple word, '-' a double word, '"' a triple letter, ''' a double letter, '.' none
abbrev pub premium_mark : Premium → ℕ
premium_mark premium.Plain = 46
premium_mark premium.DoubleLetter = 39
premium_mark premium.TripleLetter = 34
premium_mark premium.DoubleWord = 45
premium_mark premium.TripleWord = 61

-- a tile by the letter that it shows, a capital for a letter tile and a small one for a blank; an empty square by its premium
abbrev pub mark_of : Premium → Option Tile → ℕ
mark_of under None = premium_mark under
mark_of under (Some tile) = byte_of (symbol_by tile.kind tile.shown)

-- the mark of a square
unfoldable pub square_mark : Rules → List (Option Tile) → (square : ℕ) → ℕ
square_mark rules board square = mark_of (premium_at rules square) (tile_at board square)
