-- The board with its rows and columns exchanged, square by square.
use Rattle.std.proofs.Common.{◌≡◌, ℕ, ◌<◌, List, length, sym, ap, ◌∙◌, arith, Option, None}
use Rattle.std.proofs.lemmas.List.{ext_get_or}
use Rattle.std.proofs.lemmas.List.FromFn.{length-map-range_with_len, get_or-map-range_with_len}
use Rattle.ref_tiles.specs.declared.tiles.Tile.{Tile}
use Rattle.ref_board.specs.Lines.{square_in}
use Rattle.ref_board.specs.Cells.{tile_at, mirrored, transposed, AreTransposed}

-- the tile on a square of the transposed board
transposed-at : (board : List (Option Tile)) (square : ℕ) → square < 225 → tile_at (transposed board) square ≡ tile_at board (mirrored square)
unfolding transposed
transposed-at board square on = get_or-map-range_with_len (λ k. tile_at board (mirrored k)) 0 225 square square None on (omega arith)

-- a list with these tiles is the transposed board
pub transposed-is : (cells board : List (Option Tile)) → length cells ≡ 225 → ((square : ℕ) → square < 225 → tile_at cells square ≡ tile_at board (mirrored square)) → cells ≡ transposed board
unfolding transposed
transposed-is cells board size same =
    let long = length-map-range_with_len (λ k. tile_at board (mirrored k)) 0 225 in
    ext_get_or None cells (transposed board) (size ∙ sym long)
    (λ square inside. same square (omega arith) ∙ sym (transposed-at board square (omega arith)))

-- and each of its rows has the tiles of the column with its number
pub transposed-has : (cells board : List (Option Tile)) → ((square : ℕ) → square < 225 → tile_at cells square ≡ tile_at board (mirrored square)) → AreTransposed board cells
transposed-has cells board same row column r c =
    let there : mirrored (square_in row column) ≡ square_in column row = omega arith in
    same (square_in row column) (omega arith) ∙ ap (tile_at board) there
