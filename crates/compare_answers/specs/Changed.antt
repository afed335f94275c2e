-- The sheet that a repair of a choice changes.
use Rattle.std.specs.Prelude.{◌≡◌, ℕ, ◌==◌, Bool, true, false, slice_get, Option, Some, None}
use Rattle.gcg_read.specs.declared.events.Event.{Event}
use Rattle.repair_single.specs.declared.repair.Repair.{Repair}
use Rattle.compare_repaired.specs.declared.repaired.RepairedChoice.{RepairedChoice}
use Rattle.compare_alignments.specs.declared.pairs.Pair.{Pair}
use Rattle.compare_alignments.specs.declared.pairs.Side.{Side}
use Rattle.compare_alignments.specs.declared.pairs.Side.TheVariants.{First, Second}
use Rattle.compare_alignments.specs.Merging.{line_at}
use Rattle.compare_choices.specs.declared.sheets.Sheets.{Sheets}
use Rattle.compare_answers.specs.Places.{IsPairOf}

-- a line of a sheet has this number
abbrev pub has_number : Option Event → (line : ℕ) → Bool
has_number None line = false
has_number (Some e) line = e.line == line

-- the only sheet of which something is so
abbrev pub one_side : (on_first on_second : Bool) → Option Side
one_side true false = Some First
one_side false true = Some Second
one_side true true = None
one_side false false = None

-- the only sheet on which the line of a pair has this number
abbrev pub side_on : Sheets → Pair → (line : ℕ) → Option Side
side_on s p line = one_side (has_number (line_at s.first.events p.first) line) (has_number (line_at s.second.events p.second) line)

abbrev pub side_of : Sheets → Option Pair → (line : ℕ) → Option Side
side_of s None line = None
side_of s (Some p) line = side_on s p line

-- the same for the pair at an index, if there is one
abbrev pub side_at : Sheets → Option ℕ → (line : ℕ) → Option Side
side_at s None line = None
side_at s (Some index) line = side_of s (slice_get s.pairs.items index) line

-- the sheet of an event at a place of a choice, if the line has another number on the other sheet
abbrev pub IsChangedAt : Sheets → (choice place : ℕ) → Option Event → Option Side → Type 0
IsChangedAt s choice place None which = which ≡ None
IsChangedAt s choice place (Some e) which = (at : Option ℕ) × IsPairOf s choice place at × (which ≡ side_at s at e.line)

-- The sheet whose line the best repair changes, if the line has another number on the other sheet.
abbrev pub IsChanged : Sheets → Option RepairedChoice → Option Repair → Option Side → Type 0
IsChanged s None repair which = which ≡ None
IsChanged s (Some r) None which = which ≡ None
IsChanged s (Some r) (Some repair) which = IsChangedAt s r.choice repair.listed.change.place (slice_get r.written repair.listed.change.place) which
