-- What may be wrong with tiles: those of a stated rack, of an exchange or of a last rack.
use Rattle.std.specs.Prelude.{ℕ, ◌==◌, Bool, nat_lt, List, [], ◌∷◌, ◌++◌, sum, if◌then◌else◌}
use Rattle.ref_tiles.specs.declared.kinds.Kind.{Kind}
use Rattle.ref_tiles.specs.Kinds.{number_of}
use Rattle.ref_tiles.specs.Counting.{count_of}
use Rattle.repair_changes.specs.declared.slips.Slip.{Slip}
use Rattle.repair_changes.specs.declared.slips.Slip.TheVariants as slip
use Rattle.repair_changes.specs.declared.slips.TilesOf.{TilesOf}
use Rattle.repair_changes.specs.declared.slips.TileSlip.TheVariants as tiles
use Rattle.repair_slips.specs.Each.{for_kinds}

-- whether a tile of this kind is among the tiles
abbrev pub has : (counts : List ℕ) → Kind → Bool
has counts tile = nat_lt 0 (count_of counts tile)

-- another tile in place of this one
abbrev pub other_tile : TilesOf → (tile : Kind) → (right : Kind) → List Slip
other_tile of tile right = if number_of right == number_of tile then [] else slip.Tile of (tiles.Other tile right) ∷ []

-- each other tile in place of this one, if it is there
abbrev pub other_for : TilesOf → (counts : List ℕ) → (tile : Kind) → List Slip
other_for of counts tile = if has counts tile then for_kinds (other_tile of tile) else []

-- each tile may have been another one
unfoldable pub other_tiles : TilesOf → (counts : List ℕ) → List Slip
other_tiles of counts = for_kinds (other_for of counts)

abbrev pub extra_tile : TilesOf → (counts : List ℕ) → (tile : Kind) → List Slip
extra_tile of counts tile = if has counts tile then slip.Tile of (tiles.Extra tile) ∷ [] else []

-- each tile may be too many, unless it is the only one
unfoldable pub extra_tiles : TilesOf → (counts : List ℕ) → List Slip
extra_tiles of counts = if nat_lt 1 (sum counts) then for_kinds (extra_tile of counts) else []

abbrev pub missing_tile : TilesOf → (tile : Kind) → List Slip
missing_tile of tile = slip.Tile of (tiles.Missing tile) ∷ []

-- any tile may be missing, if there are fewer than seven
unfoldable pub missing_tiles : TilesOf → (counts : List ℕ) → List Slip
missing_tiles of counts = if nat_lt (sum counts) 7 then for_kinds (missing_tile of) else []

-- what may be wrong with the tiles of an exchange or of a last rack
unfoldable pub tile_slips : TilesOf → (counts : List ℕ) → List Slip
tile_slips of counts = other_tiles of counts ++ extra_tiles of counts ++ missing_tiles of counts
