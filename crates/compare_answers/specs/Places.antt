-- Where the events of a choice come from.
use Rattle.std.specs.Prelude.{◌≡◌, ℕ, ◌+◌, ◌<◌, length, take, Option, Some, None}
use Rattle.compare_alignments.specs.declared.merging.NumbersOf.TheVariants.{Taken}
use Rattle.compare_alignments.specs.Merging.{merged}
use Rattle.compare_choices.specs.declared.sheets.Sheets.{Sheets}

-- how many events a choice takes from the first pairs
unfoldable pub place_of : Sheets → (choice index : ℕ) → ℕ
place_of s choice index = length (merged s.owner Taken choice s.first.events s.second.events (take index s.pairs.items))

-- the event at a place of a choice is taken from the pair at an index
abbrev pub IsPairAt : Sheets → (choice place index : ℕ) → Type 0
IsPairAt s choice place index = (place_of s choice index ≡ place) × (place < place_of s choice (index + 1))

-- the index of the pair from which the event at a place of a choice is taken, if there is one
abbrev pub IsPairOf : Sheets → (choice place : ℕ) → Option ℕ → Type 0
IsPairOf s choice place None = (index : ℕ) → index < length s.pairs.items → IsPairAt s choice place index → ⊥
IsPairOf s choice place (Some index) = (index < length s.pairs.items) × IsPairAt s choice place index
