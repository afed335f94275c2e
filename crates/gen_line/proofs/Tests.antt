-- The moves of one line through one anchor as a test, and how often a list has what a test holds for.
use Rattle.std.proofs.Common.{◌≡◌, ℕ, zero, suc, ◌+◌, ◌==◌, ◌&&◌, ◌||◌, not, nat_lt, Bool, true, false, List, [], ◌∷◌, ◌++◌, length, drop, slice_index, if◌then◌else◌}
use Rattle.ref_tiles.proofs.Tallies.{tally, once}
use Rattle.gen_line.specs.declared.cells.Cell.{Cell}
use Rattle.gen_line.specs.declared.cells.Cell.TheVariants.{Old, Free}
use Rattle.gen_line.specs.Entries.{label_of_entry}
use Rattle.gen_line.specs.Cells.{cell_at}
use Rattle.gen_line.specs.Model.{after, longer, may, less, zeros, starts_free, left_of}

-- whether two lists of numbers are equal
abbrev pub same : List ℕ → List ℕ → Bool
same [] [] = true
same [] (b ∷ t) = false
same (a ∷ s) [] = false
same (a ∷ s) (b ∷ t) = (a == b) && same s t

-- the entries to the right that the list has
unfoldable pub fits_right : (List ℕ → Bool) → List Cell → List ℕ → List ℕ → Bool
fits_right g [] rack [] = g []
fits_right g [] rack (e ∷ os) = false
fits_right g (Old a ∷ cs) rack [] = false
fits_right g (Old a ∷ cs) rack (e ∷ os) = (e == 0) && fits_right (after g a) cs rack os
fits_right g (Free m ∷ cs) rack [] = false
fits_right g (Free m ∷ cs) rack (e ∷ os) =
    if e == 0 then g [] && same os (zeros (length cs))
    else (nat_lt e 53 && may m rack e) && fits_right (after g (label_of_entry e)) cs (less rack e) os

-- those of the end, or of the turn
unfoldable pub fits_turn : (List ℕ → Bool) → List Cell → List ℕ → List ℕ → Bool
fits_turn g cs rack os = ((starts_free cs && g []) && same os (zeros (length cs))) || fits_right (longer (after g 0)) cs rack os

-- after a number of places without a new tile
abbrev pub after_zeros : ℕ → (List ℕ → Bool) → List ℕ → Bool
after_zeros zero f os = f os
after_zeros (suc n) f [] = false
after_zeros (suc n) f (e ∷ os) = (e == 0) && after_zeros n f os

-- the entries to the left, and then those to the right
unfoldable pub fits_left : (List ℕ → Bool) → List Cell → List Cell → List ℕ → List ℕ → Bool
fits_left g [] cs rack os = fits_turn g cs rack os
fits_left g (Old a ∷ ls) cs rack [] = false
fits_left g (Old a ∷ ls) cs rack (e ∷ os) = (e == 0) && fits_left (after g a) ls cs rack os
fits_left g (Free m ∷ ls) cs rack [] = false
fits_left g (Free m ∷ ls) cs rack (e ∷ os) =
    if e == 0 then after_zeros (length ls) (fits_turn g cs rack) os
    else (not m.anchor && (nat_lt e 53 && may m rack e)) && fits_left (after g (label_of_entry e)) ls cs (less rack e) os

-- each thing of the set once, and no others
abbrev pub Each : (List ℕ → Bool) → List (List ℕ) → Type 0
Each f xs = (x : List ℕ) → tally (same x) xs ≡ once (f x)

-- those from an anchor, in the order of the walk
unfoldable pub cell_fits : (List ℕ → Bool) → List Cell → ℕ → List ℕ → Cell → List ℕ → Bool
cell_fits g line h rack (Old a) x = false
cell_fits g line h rack (Free m) [] = false
cell_fits g line h rack (Free m) (e ∷ os) =
    (m.anchor && (not (e == 0) && (nat_lt e 53 && may m rack e)))
    && fits_left (after g (label_of_entry e)) (left_of line h) (drop (h + 1) line) (less rack e) os

-- the entries to the left of a place, nearest first
unfoldable pub left_entries : List ℕ → ℕ → List ℕ
left_entries y zero = []
left_entries y (suc k) = slice_index y k ∷ left_entries y k

-- from the order of the places to that of the walk
abbrev pub walk : ℕ → List ℕ → List ℕ
walk h y = slice_index y h ∷ (left_entries y h ++ drop (h + 1) y)

-- what the anchor at h owes
abbrev pub owes : (List ℕ → Bool) → List Cell → List ℕ → ℕ → List ℕ → Bool
owes g line rack h y = (length y == 15) && cell_fits g line h rack (cell_at line h) (walk h y)
