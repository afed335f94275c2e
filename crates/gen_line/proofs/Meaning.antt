-- What the tests of the walk require of the word, the squares and the rack.
use Rattle.std.proofs.Common.{ℕ, ◌==◌, ◌&&◌, not, nat_lt, Bool, true, false, List, [], ◌∷◌, length, slice_index, slice_index_or, if◌then◌else◌}
use Rattle.gen_line.specs.declared.cells.Cell.{Cell}
use Rattle.gen_line.specs.declared.cells.Cell.TheVariants.{Old, Free}
use Rattle.gen_line.specs.declared.cells.Open.{Open}
use Rattle.gen_line.specs.Entries.{letter_of_entry, label_of_entry, kind_of_entry}
use Rattle.gen_line.specs.Model.{zeros, less}
use Rattle.gen_line.proofs.Tests.{same}

-- the labels of the filled squares, up to the first that is not filled
abbrev pub word : List Cell → List ℕ → List ℕ
word [] os = []
word (Old a ∷ cs) [] = []
word (Old a ∷ cs) (e ∷ os) = a ∷ word cs os
word (Free m ∷ cs) [] = []
word (Free m ∷ cs) (e ∷ os) = if e == 0 then [] else label_of_entry e ∷ word cs os

-- new tiles only on free squares, without a gap, allowed by the masks, and none if a square is barred
abbrev pub shape : (Open → Bool) → List Cell → List ℕ → Bool
shape bar [] [] = true
shape bar [] (e ∷ os) = false
shape bar (Old a ∷ cs) [] = false
shape bar (Old a ∷ cs) (e ∷ os) = (e == 0) && shape bar cs os
shape bar (Free m ∷ cs) [] = false
shape bar (Free m ∷ cs) (e ∷ os) =
    if e == 0 then same os (zeros (length cs))
    else (not (bar m) && (nat_lt e 53 && slice_index_or m.mask (letter_of_entry e) false)) && shape bar cs os

-- the rack has the tiles, taken one after another
abbrev pub rack_ok : List ℕ → List ℕ → Bool
rack_ok rack [] = true
rack_ok rack (e ∷ os) = if e == 0 then rack_ok rack os else nat_lt 0 (slice_index rack (kind_of_entry e)) && rack_ok (less rack e) os

-- what they leave of the rack
abbrev pub rack_after : List ℕ → List ℕ → List ℕ
rack_after rack [] = rack
rack_after rack (e ∷ os) = if e == 0 then rack_after rack os else rack_after (less rack e) os

abbrev pub no_bar : Open → Bool
no_bar m = false

abbrev pub at_anchor : Open → Bool
at_anchor m = m.anchor
