-- A line of cells with an entry for each place.
use Rattle.std.specs.Prelude.{ℕ, zero, suc, ◌+◌, ◌==◌, ◌&&◌, ◌||◌, not, nat_lt, Bool, true, false, List, [], ◌∷◌, slice_index, slice_index_or}
use Rattle.gen_line.specs.declared.takers.TheConstants.{ENTRIES}
use Rattle.gen_line.specs.declared.cells.Cell.{Cell}
use Rattle.gen_line.specs.declared.cells.Cell.TheVariants.{Old, Free}
use Rattle.gen_line.specs.Entries.{letter_of_entry, label_of_entry}

-- the cell of a place
abbrev pub cell_at : List Cell → ℕ → Cell
cell_at line k = slice_index_or line k (Old 0)

-- whether a cell with an entry has a tile, old or new
abbrev pub is_full : Cell → ℕ → Bool
is_full (Old a) e = true
is_full (Free m) e = not (e == 0)

-- the label of that tile
abbrev pub label_at : Cell → ℕ → ℕ
label_at (Old a) e = a
label_at (Free m) e = label_of_entry e

-- whether a cell allows an entry: no new tile on an old one, and on a free cell the letters of its mask
abbrev pub cell_ok : Cell → ℕ → Bool
cell_ok (Old a) e = e == 0
cell_ok (Free m) e = (e == 0) || (nat_lt e ENTRIES && slice_index_or m.mask (letter_of_entry e) false)

abbrev pub is_anchor_cell : Cell → Bool
is_anchor_cell (Old a) = false
is_anchor_cell (Free m) = m.anchor

-- the labels of successive places, from p on
abbrev pub labels : List Cell → List ℕ → ℕ → ℕ → List ℕ
labels line y p zero = []
labels line y p (suc n) = label_at (cell_at line p) (slice_index y p) ∷ labels line y (p + 1) n

-- which places are full once the new tiles lie there
abbrev pub full_on : List Cell → List ℕ → ℕ → Bool
full_on line y place = is_full (cell_at line place) (slice_index y place)
