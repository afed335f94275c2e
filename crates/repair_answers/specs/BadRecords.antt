-- What repairs a text that is not a record because of one of its lines.
use Rattle.std.specs.Prelude.{◌≡◌, ℕ, ◌==◌, Bool, List, [], ◌∷◌, length, take, slice_get, Option, Some, None, Result, Ok, Err, if◌then◌else◌}
use Rattle.std.specs.List.{count_by, flat_map, range_with_len}
use Rattle.ref_tiles.specs.declared.rulebook.Rules.{Rules}
use Rattle.gcg_read.specs.declared.faults.ReadFault.{ReadFault}
use Rattle.game_case.specs.declared.entries.Entry.{Entry}
use Rattle.repair_sheets.specs.BadListing.{bad_slips}
use Rattle.repair_answers.specs.Sheets.{AreSheetRepairs}
use Rattle.repair_answers.specs.declared.bad_records.LineRepairs.{LineRepairs}
use Rattle.repair_answers.specs.declared.bad_records.SameCost.{SameCost}
use Rattle.repair_answers.specs.declared.sheet_repair.SheetRepair.{SheetRepair}

abbrev pub costs : (cost : ℕ) → SheetRepair → Bool
costs cost r = r.cost == cost

-- the line of the repairs that cost what one of them does, if it is the first of these
abbrev pub line_of : List SheetRepair → (number : ℕ) → Option SheetRepair → List SameCost
line_of found number None = []
line_of found number (Some r) =
    if count_by (costs r.cost) (take number found) == 0 then record { first = number; many = count_by (costs r.cost) found } ∷ [] else []

abbrev pub lines_at : List SheetRepair → (number : ℕ) → List SameCost
lines_at found number = line_of found number (slice_get found number)

-- the lines of some repairs: those that cost the same are listed together
unfoldable pub all_lines : List SheetRepair → List SameCost
all_lines found = flat_map (lines_at found) (range_with_len 0 (length found))

-- The slips of the line with a number with which a text is a record, and a game as far as is known, those that cost least first, in at most `most` lines. None
-- that makes a game is left out. The text has no events of its own, and fewer than ten numbers and words stay wrong.
pub record AreLineRepairs (rules : Rules) (list : List (List ℕ)) (text : List ℕ) (number most : ℕ) (r : LineRepairs) : Type 0 where
  pub found : AreSheetRepairs rules list text [] 10 (bad_slips text number) r.found.items
  pub lines : r.lines.items ≡ take most (all_lines r.found.items)

-- the same for a text that is not a record; a record has none
abbrev pub RepairsOfLine : Result Entry ReadFault → Rules → (list : List (List ℕ)) → (text : List ℕ) → (most : ℕ) → Option LineRepairs → Type 0
RepairsOfLine (Ok entry) rules list text most answer = answer ≡ None
RepairsOfLine (Err fault) rules list text most None = ⊥
RepairsOfLine (Err fault) rules list text most (Some r) = AreLineRepairs rules list text fault.line most r
