-- Anchors and transposed boards, computed. Squares are numbered row by row from 1A, which is 0: 1B is 1, 2A is 15.
use Rattle.std.proofs.Common.{◌≡◌, refl, inl, inr, List, Option, Some, None}
use Rattle.ref_tiles.specs.declared.tiles.Tile.{Tile}
use Rattle.ref_tiles.specs.Faces.{letter_tile, letter_a}
use Rattle.ref_board.specs.declared.directions.Dir.TheVariants.{Across, Down}
use Rattle.ref_board.specs.Cells.{empty_board, tile_at, with_tile, transposed}
use Rattle.ref_board.specs.Anchors.{IsAnchor}

-- an A on 1B
abbrev a_on_1b : List (Option Tile)
a_on_1b = with_tile empty_board 1 (Some (letter_tile letter_a))

-- 1A and 2B are beside it, and its own square has a tile
before_it : IsAnchor a_on_1b 0
unfolding empty_board
before_it = record { free = refl; near = inr (1, (Across, refl, inl refl), refl) }

below_it : IsAnchor a_on_1b 16
unfolding empty_board
below_it = record { free = refl; near = inr (1, (Down, refl, inr refl), refl) }

not_its_own : IsAnchor a_on_1b 1 → ⊥
unfolding empty_board
not_its_own anchor = let free = anchor.free in cc

-- transposed, it is on 2A, and 1B is empty
moved_to_2a : tile_at (transposed a_on_1b) 15 ≡ Some (letter_tile letter_a)
unfolding empty_board transposed
moved_to_2a = refl

gone_from_1b : tile_at (transposed a_on_1b) 1 ≡ None
unfolding empty_board transposed
gone_from_1b = refl
