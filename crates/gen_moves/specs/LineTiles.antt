-- The new tiles of a line of the board, the entries that stand for them in a walk, and the placement that they make.
use Rattle.std.specs.Prelude.{ℕ, ◌+◌, ◌*◌, ◌==◌, Bool, true, false, List, map, slice_index_or, Option, Some, None, if◌then◌else◌}
use Rattle.std.specs.List.{flat_map, range_with_len}
use Rattle.std.specs.Option.{option_map}
use Rattle.ref_tiles.specs.declared.rulebook.TheConstants.{SIDE}
use Rattle.ref_tiles.specs.declared.tiles.Tile.{Tile}
use Rattle.ref_tiles.specs.declared.letters.Letter.{Letter}
use Rattle.ref_tiles.specs.declared.kinds.Kind.{Kind}
use Rattle.ref_tiles.specs.declared.kinds.Kind.TheVariants as kind
use Rattle.ref_tiles.specs.Faces.{letter_tile, blank_tile}
use Rattle.ref_tiles.specs.Letters.{letter_at}
use Rattle.ref_board.specs.declared.directions.Dir.{Dir}
use Rattle.ref_board.specs.Lines.{square_at}
use Rattle.ref_play.specs.declared.placed.Placed.{Placed}
use Rattle.ref_play.specs.Notations.{tile_in}
use Rattle.ref_play.specs.Texts.{placed_on}
use Rattle.gen_line.specs.Entries.{letter_of_entry, is_blank_entry}

-- a blank or a letter tile
abbrev pub faced : Bool → Letter → Tile
faced true l = blank_tile l
faced false l = letter_tile l

-- the tile of an entry
abbrev pub tile_of_entry : ℕ → Option Tile
tile_of_entry e = if e == 0 then None else option_map (faced (is_blank_entry e)) (letter_at (letter_of_entry e))

abbrev pub blank_part : Kind → ℕ
blank_part (kind.Letter l) = 0
blank_part kind.Blank = 1

-- the entry of a tile
abbrev pub entry_of : Option Tile → ℕ
entry_of None = 0
entry_of (Some t) = 1 + 2 * t.shown.index + blank_part t.kind

-- the tiles that entries stand for, place by place
unfoldable pub line_tiles : List ℕ → List (Option Tile)
line_tiles y = map tile_of_entry y

-- the new tile on a place of a line
abbrev pub new_tile : List (Option Tile) → ℕ → Option Tile
new_tile tiles i = slice_index_or tiles i None

-- the placement that the new tiles of a line make
unfoldable pub placement_of : Dir → ℕ → List (Option Tile) → List Placed
placement_of d line tiles = flat_map (λ i. placed_on (square_at d line i) (new_tile tiles i)) (range_with_len 0 SIDE)

-- the placement that entries make on a line
abbrev pub tiles_of : Dir → ℕ → List ℕ → List Placed
tiles_of d line y = placement_of d line (line_tiles y)

-- the entries of a placement on a line
unfoldable pub entries_of : Dir → ℕ → List Placed → List ℕ
entries_of d line ps = map (λ i. entry_of (tile_in ps (square_at d line i))) (range_with_len 0 SIDE)
