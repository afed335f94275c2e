-- Squares on which no tile of a rack can be laid.
use Rattle.std.specs.Prelude.{◌≡◌, ℕ, ◌+◌, ◌<◌, ◌≤◌, ◌&&◌, ◌||◌, nat_lt, Bool, true, false, List, slice_index, slice_index_or}
use Rattle.ref_tiles.specs.declared.rulebook.TheConstants.{SIDE}
use Rattle.gen_line.specs.declared.cells.Cell.{Cell}
use Rattle.gen_line.specs.declared.cells.Cell.TheVariants.{Old, Free}
use Rattle.gen_line.specs.declared.cells.Open.{Open}
use Rattle.gen_line.specs.Cells.{cell_at}

-- whether a square allows a letter, 0 for A to 25 for Z, that a tile of a rack or a blank can show
abbrev pub lays : Open → List ℕ → ℕ → Bool
lays m rack k = slice_index_or m.mask k false && (nat_lt 0 (slice_index rack k) || nat_lt 0 (slice_index rack 26))

-- no tile of the rack can be laid there: the square is free, and does not allow such a letter
abbrev pub IsClosed : List ℕ → Cell → Type 0
IsClosed rack (Old a) = ⊥
IsClosed rack (Free m) = (k : ℕ) → k < 26 → lays m rack k ≡ false

-- which places of a line may have a tile once a play lies there: the others are closed
abbrev pub AreOpen : List Cell → List ℕ → (ℕ → Bool) → Type 0
AreOpen cells rack opens = (i : ℕ) → i < SIDE → opens i ≡ false → IsClosed rack (cell_at cells i)

abbrev pub open_in : List Bool → ℕ → Bool
open_in opens i = slice_index_or opens i false

-- each place of a stretch may have a tile
abbrev pub IsPassable : (ℕ → Bool) → ℕ → ℕ → Type 0
IsPassable opens first len = (i : ℕ) → first ≤ i → i < first + len → opens i ≡ true
