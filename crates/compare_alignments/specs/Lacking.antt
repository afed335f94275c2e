-- What is missing on the lines of two drafts, and of what a choice takes from them.
use Rattle.std.specs.Prelude.{ℕ, List, [], ◌∷◌, ◌++◌, slice_get, Option, Some, None}
use Rattle.gcg_read.specs.declared.events.Event.{Event}
use Rattle.gcg_drafts.specs.declared.missing.Missing.{Missing}
use Rattle.gcg_drafts.specs.declared.missing.Missing.TheVariants as missing
use Rattle.compare_alignments.specs.declared.lacking.Lacks.{Lacks}
use Rattle.compare_alignments.specs.declared.pairs.Pair.{Pair}
use Rattle.compare_alignments.specs.declared.pairs.Side.{Side}
use Rattle.compare_alignments.specs.Merging.{line_at, of_side, side_of, next_item}

-- what a line lacks: nothing, if it is not said
abbrev pub said : Option Missing → Missing
said None = missing.Nothing
said (Some m) = m

-- what the line at a place lacks, if there is a place
abbrev pub lack_at : List Missing → Option ℕ → Missing
lack_at lacks None = missing.Nothing
lack_at lacks (Some place) = said (slice_get lacks place)

-- what a line lacks, if there is a line
abbrev pub lack_of : Option Event → Missing → Option Missing
lack_of None m = None
lack_of (Some e) m = Some m

-- What is missing of what is taken from two lines with the numbers of a sheet: what is missing on that sheet. A line without a partner has its own numbers.
abbrev pub lacks_of : (sheet taken : Side) → Option Missing → Option Missing → List Missing
lacks_of sheet which (Some m) (Some n) = of_side sheet m n ∷ []
lacks_of sheet which (Some m) None = of_side which (m ∷ []) []
lacks_of sheet which None (Some n) = of_side which [] (n ∷ [])
lacks_of sheet which None None = []

-- the thing that there is, if there is one, as a list
abbrev pub as_list : Option Missing → List Missing
as_list None = []
as_list (Some m) = m ∷ []

-- of what is taken from a pair, if its lines have this number as an item
abbrev pub lacks_taken : (sheet : Side) → (choice number : ℕ) → (first second : List Event) → Lacks → Pair → List Missing
lacks_taken sheet choice number first second l p =
    lacks_of sheet (side_of choice number p (line_at first p.first) (line_at second p.second)) (lack_of (line_at first p.first) (lack_at l.first.items p.first))
    (lack_of (line_at second p.second) (lack_at l.second.items p.second))

-- of some pairs, with their items numbered from here
unfoldable pub lacks_from : (sheet : Side) → (choice number : ℕ) → (first second : List Event) → Lacks → List Pair → List Missing
lacks_from sheet choice number first second l [] = []
lacks_from sheet choice number first second l (p ∷ pairs) = lacks_taken sheet choice number first second l p ++ lacks_from sheet choice (next_item number p) first second l pairs

-- What is missing on the lines of the record that a choice makes from two drafts, with the numbers of a sheet.
abbrev pub merged_lacks : (sheet : Side) → (choice : ℕ) → (first second : List Event) → Lacks → List Pair → List Missing
merged_lacks sheet choice first second l pairs = lacks_from sheet choice 0 first second l pairs
