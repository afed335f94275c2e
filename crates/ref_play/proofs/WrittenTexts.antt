-- The symbols of the text of a placement.
use Rattle.std.proofs.Common.{◌≡◌, ℕ, ◌==◌, List, [], ◌∷◌, Bool, true, false, refl, Option, Some, cond}
use Rattle.std.specs.List.{find}
use Rattle.std.specs.Option.{option_map}
use Rattle.ref_tiles.specs.declared.tiles.Tile.{Tile}
use Rattle.ref_play.specs.declared.placed.Placed.{Placed}
use Rattle.ref_play.specs.Notations.{tile_in}

-- the new tile on a square is that of the first tile of the placement that lies there
pub tile_found : (ps : List Placed) (square : ℕ) → option_map (λ (p : Placed). p.tile) (find (λ (p : Placed). p.square == square) ps) ≡ tile_in ps square
tile_found [] square = refl
tile_found (p ∷ ps) square = by_test p (p.square == square) (find (λ (q : Placed). q.square == square) ps) (tile_in ps square) (tile_found ps square) where
  by_test : (p : Placed) (b : Bool) (found : Option Placed) (rest : Option Tile) → option_map (λ (q : Placed). q.tile) found ≡ rest
      → option_map (λ (q : Placed). q.tile) (cond b (Some p) found) ≡ cond b (Some p.tile) rest
  by_test p true found rest e = refl
  by_test p false found rest e = e
