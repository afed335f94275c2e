-- What a sheet says with a change. Nothing is written of a missing line, so it has the numbers that it would have had there.
use Rattle.std.specs.Prelude.{ℕ, ℤ, pos, neg_ℤ, ◌+ℤ◌, int_le, ◌&&◌, Bool, List, map, slice_get, Option, Some, None, if◌then◌else◌}
use Rattle.gcg_read.specs.declared.events.Event.{Event}
use Rattle.game_corrections.specs.WrongNumbers.{had_before}
use Rattle.repair_changes.specs.Splices.{spliced}
use Rattle.repair_changes.specs.declared.slips.Change.{Change}
use Rattle.repair_changes.specs.declared.slips.Slip.{Slip}
use Rattle.repair_changes.specs.declared.slips.Slip.TheVariants as slip

-- whether a record can write a number
abbrev pub is_written : ℤ → Bool
is_written n = int_le (neg_ℤ (pos 999999)) n && int_le n (pos 999999)

-- The total that a player has after a missing line: what the player had and the score, if a record can write that sum.
abbrev pub total_after : (had score : ℤ) → ℤ
total_after had score = if is_written (had +ℤ score) then had +ℤ score else had

-- the score of an event, or 0 if there is none
abbrev pub score_in : Option Event → ℤ
score_in None = pos 0
score_in (Some e) = e.score

-- a line with this score, and with the player's total after it
abbrev pub with_score : (had score : ℤ) → Event → Event
with_score had score e = record e { score = score; total = total_after had score }

-- a missing line at a place with the right score, and with the total that the sheet goes on with
abbrev pub line_on_sheet : (changed right : List Event) → (place : ℕ) → Event → Event
line_on_sheet changed right place e = with_score (had_before changed e.player place) (score_in (slice_get right place)) e

abbrev pub sheet_by : Slip → (place : ℕ) → (changed right : List Event) → List Event
sheet_by (slip.Missing line) place changed right = spliced place 1 (map (line_on_sheet changed right place)) changed
sheet_by other place changed right = changed

-- The events of a record with a change, with the numbers of the sheet, given the same events with the right ones.
abbrev pub on_sheet : Change → (changed right : List Event) → List Event
on_sheet change changed right = sheet_by change.slip change.place changed right
