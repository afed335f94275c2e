-- Where a text does not agree with the board, and the number of tiles that it puts down.
use Rattle.std.specs.Prelude.{◌≡◌, ℕ, ◌+◌, ◌<◌, nat_lt, not, Bool, true, false, List, length, Option, Some, None, slice_get, if◌then◌else◌}
use Rattle.ref_tiles.specs.declared.tiles.Tile.{Tile}
use Rattle.ref_tiles.specs.declared.symbols.Symbol.{Symbol}
use Rattle.ref_board.specs.declared.directions.Dir.{Dir}
use Rattle.ref_board.specs.Lines.{place_of}
use Rattle.ref_board.specs.Cells.{tile_at}
use Rattle.ref_play.specs.Formed.{along}
use Rattle.ref_play.specs.Texts.{symbol_fits, placement_of}

-- whether a text leaves the board
abbrev pub leaves_board : Dir → (at : ℕ) → List Symbol → Bool
leaves_board d at word = nat_lt 15 (place_of d at + length word)

abbrev pub misfits : Option Tile → Option Symbol → Bool
misfits cell None = false
misfits cell (Some symbol) = not (symbol_fits cell symbol)

-- whether the symbol at a place of a text, counted from 0, does not agree with what lies on its square
abbrev pub misfits_at : (board : List (Option Tile)) → Dir → (at : ℕ) → List Symbol → (k : ℕ) → Bool
misfits_at board d at word k = misfits (tile_at board (along d at k)) (slice_get word k)

abbrev pub FitsTo : (board : List (Option Tile)) → Dir → (at : ℕ) → List Symbol → (many : ℕ) → Type 0
FitsTo board d at word many = (k : ℕ) → k < many → misfits_at board d at word k ≡ false

-- the place of the first symbol that does not agree with its square; none if each does, or if the text leaves the board
abbrev pub IsFirstMisfit : (board : List (Option Tile)) → Dir → (at : ℕ) → List Symbol → Option ℕ → Type 0
IsFirstMisfit board d at word None = leaves_board d at word ≡ false → FitsTo board d at word (length word)
IsFirstMisfit board d at word (Some k) =
    (leaves_board d at word ≡ false) × (k < length word) × (misfits_at board d at word k ≡ true) × FitsTo board d at word k

-- the number of tiles that a text puts down; none if it leaves the board
abbrev pub new_tiles : (board : List (Option Tile)) → Dir → (at : ℕ) → List Symbol → Option ℕ
new_tiles board d at word = if leaves_board d at word then None else Some (length (placement_of board d at word))
