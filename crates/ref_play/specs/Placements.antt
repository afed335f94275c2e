-- Placements: sets of squares with a tile each, as lists in rising order of the squares, so that equal lists are equal sets.
use Rattle.std.specs.Prelude.{◌≡◌, ℕ, ◌==◌, ◌&&◌, Bool, true, false, List, [], ◌∷◌, length, Option, Some, None, All, nat_lt, nat_le}
use Rattle.std.specs.List.{list_any, list_all}
use Rattle.ref_tiles.specs.declared.tiles.Tile.{Tile}
use Rattle.ref_board.specs.declared.directions.Dir.{Dir}
use Rattle.ref_board.specs.Lines.{line_of, square_at}
use Rattle.ref_board.specs.Cells.{tile_at, with_tile}
use Rattle.ref_play.specs.declared.placed.Placed.{Placed}

-- each square comes after those before it
abbrev pub are_rising : List Placed → Bool
are_rising [] = true
are_rising (p ∷ ps) = list_all (λ q. nat_lt p.square q.square) ps && are_rising ps

-- the tiles lie on one line of the direction
abbrev pub are_in_line : Dir → List Placed → Bool
are_in_line d [] = true
are_in_line d (p ∷ ps) = list_all (λ q. line_of d q.square == line_of d p.square) ps

-- 1 to 7 tiles on squares of the board, in rising order and on one line of the direction
unfoldable pub is_play : Dir → List Placed → Bool
is_play d ps =
    nat_le 1 (length ps) && nat_le (length ps) 7 && list_all (λ p. nat_lt p.square 225) ps && are_rising ps && are_in_line d ps

-- the board with the tiles of the placement
abbrev pub with_tiles : List (Option Tile) → List Placed → List (Option Tile)
with_tiles board [] = board
with_tiles board (p ∷ ps) = with_tiles (with_tile board p.square (Some p.tile)) ps

-- the board with the squares of the placement empty
abbrev pub without_tiles : List (Option Tile) → List Placed → List (Option Tile)
without_tiles board [] = board
without_tiles board (p ∷ ps) = without_tiles (with_tile board p.square None) ps

-- each tile of the placement lies on its square
abbrev pub HasTiles : List (Option Tile) → List Placed → Type 0
HasTiles board ps = All (λ (p : Placed). tile_at board p.square ≡ Some p.tile) ps

-- whether the placement covers a square
abbrev pub covers : List Placed → ℕ → Bool
covers ps square = list_any (λ p. p.square == square) ps

-- the squares of the placement are empty on the new board, and every other square is as it was
pub record EmptiesSquares (ps : List Placed) (old new : List (Option Tile)) : Type 0 where
  pub emptied : (square : ℕ) → covers ps square ≡ true → tile_at new square ≡ None
  pub kept : (square : ℕ) → covers ps square ≡ false → tile_at new square ≡ tile_at old square

-- which places of a line the placement covers
abbrev pub fresh_on : Dir → List Placed → ℕ → ℕ → Bool
fresh_on d ps line place = covers ps (square_at d line place)
