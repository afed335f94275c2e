-- The moves of one line through one anchor, as a list. A language is a test on strings of labels.
use Rattle.std.specs.Prelude.{ℕ, zero, suc, ◌+◌, ◌-◌, ◌*◌, ◌&&◌, ◌||◌, nat_lt, Bool, true, false, List, [], ◌∷◌, ◌++◌, length, map, take, drop, slice_index, slice_index_or, slice_set, if◌then◌else◌}
use Rattle.ref_tiles.specs.declared.rulebook.TheConstants.{SIDE}
use Rattle.gen_line.specs.declared.takers.TheConstants.{ENTRIES}
use Rattle.gen_line.specs.declared.cells.Cell.{Cell}
use Rattle.gen_line.specs.declared.cells.Cell.TheVariants.{Old, Free}
use Rattle.gen_line.specs.declared.cells.Open.{Open}
use Rattle.gen_line.specs.Entries.{letter_of_entry, label_of_entry, kind_of_entry}
use Rattle.gen_line.specs.Cells.{cell_at}
use Rattle.gen_line.specs.Moves.{back}

-- the lists of successive numbers, joined
abbrev pub join_range : {A : Type 0} → (ℕ → List A) → ℕ → ℕ → List A
join_range f from zero = []
join_range f from (suc n) = join_range f from n ++ f (from + n)

-- the lists of all entries that put down a tile, joined
abbrev pub all_entries : {A : Type 0} → (ℕ → List A) → List A
all_entries f = join_range f 1 (ENTRIES - 1)

abbrev pub zeros : ℕ → List ℕ
zeros zero = []
zeros (suc n) = 0 ∷ zeros n

-- the strings of a language after a label
abbrev pub after : (List ℕ → Bool) → ℕ → List ℕ → Bool
after g a t = g (a ∷ t)

-- the strings of a language that are not empty
abbrev pub longer : (List ℕ → Bool) → List ℕ → Bool
longer g [] = false
longer g (b ∷ t) = g (b ∷ t)

-- whether a square and the rack allow an entry
unfoldable pub may : Open → List ℕ → ℕ → Bool
may m rack e = slice_index_or m.mask (letter_of_entry e) false && nat_lt 0 (slice_index rack (kind_of_entry e))

-- whether a square and the rack allow some entry that shows the letter of a label: a tile of the letter, or a blank
unfoldable pub shows : Open → List ℕ → ℕ → Bool
shows m rack label = may m rack (2 * label - 1) || may m rack (2 * label)

-- the rack without the tile of an entry
unfoldable pub less : List ℕ → ℕ → List ℕ
less rack e = slice_set rack (kind_of_entry e) (slice_index rack (kind_of_entry e) - 1)

-- ---- the lists

abbrev pub one_try : Open → List ℕ → (ℕ → List (List ℕ)) → ℕ → List (List ℕ)
one_try m rack f e = if may m rack e then map (λ os. e ∷ os) (f e) else []

-- one entry after another
unfoldable pub tries : Open → List ℕ → (ℕ → List (List ℕ)) → List (List ℕ)
tries m rack f = all_entries (one_try m rack f)

abbrev pub leaf : Bool → ℕ → List (List ℕ)
leaf ok n = if ok then zeros n ∷ [] else []

-- the entries to the right
unfoldable pub right : (List ℕ → Bool) → List Cell → List ℕ → List (List ℕ)
right g [] rack = leaf (g []) 0
right g (Old a ∷ cs) rack = map (λ os. 0 ∷ os) (right (after g a) cs rack)
right g (Free m ∷ cs) rack = leaf (g []) (suc (length cs)) ++ tries m rack (λ e. right (after g (label_of_entry e)) cs (less rack e))

abbrev pub starts_free : List Cell → Bool
starts_free [] = true
starts_free (Old a ∷ cs) = false
starts_free (Free m ∷ cs) = true

-- the end, or the turn to the right after the mark
unfoldable pub turn : (List ℕ → Bool) → List Cell → List ℕ → List (List ℕ)
turn g cs rack = leaf (starts_free cs && g []) (length cs) ++ right (longer (after g 0)) cs rack

-- the entries to the left, nearest first, and then those to the right
unfoldable pub left : (List ℕ → Bool) → List Cell → List Cell → List ℕ → List (List ℕ)
left g [] cs rack = turn g cs rack
left g (Old a ∷ ls) cs rack = map (λ os. 0 ∷ os) (left (after g a) ls cs rack)
left g (Free m ∷ ls) cs rack =
    map (λ os. zeros (suc (length ls)) ++ os) (turn g cs rack)
    ++ (if m.anchor then [] else tries m rack (λ e. left (after g (label_of_entry e)) ls cs (less rack e)))

-- ---- the whole line

-- the cells to the left of a place, nearest first
unfoldable pub left_of : List Cell → ℕ → List Cell
left_of line zero = []
left_of line (suc k) = cell_at line k ∷ left_of line k

abbrev pub rest_of_anchor : (List ℕ → Bool) → List Cell → ℕ → List ℕ → ℕ → List (List ℕ)
rest_of_anchor g line h rack e = left (after g (label_of_entry e)) (left_of line h) (drop (h + 1) line) (less rack e)

-- from the anchor to the left and then to the right, in this order
abbrev pub cell_moves : (List ℕ → Bool) → List Cell → ℕ → List ℕ → Cell → List (List ℕ)
cell_moves g line h rack (Old a) = []
cell_moves g line h rack (Free m) = if m.anchor then tries m rack (rest_of_anchor g line h rack) else []

-- from the order of the walk to that of the places, and back
abbrev pub unwalk : ℕ → List ℕ → List ℕ
unwalk h [] = []
unwalk h (e ∷ os) = back (take h os) (e ∷ drop h os)

-- the moves of a line: those of its anchors
unfoldable pub line_moves : (List ℕ → Bool) → List Cell → List ℕ → List (List ℕ)
line_moves g line rack = join_range (λ h. map (unwalk h) (cell_moves g line h rack (cell_at line h))) 0 SIDE
