-- Where a change is in the file that is made after others.
use Rattle.std.specs.Prelude.{ℕ, ◌==◌, Bool, not, List, drop, Option, Some, None, option_map, if◌then◌else◌}
use Rattle.std.specs.List.{find, fold}
use Rattle.gcg_read.specs.declared.events.Event.{Event}
use Rattle.repair_changes.specs.declared.slips.Change.{Change}
use Rattle.repair_changes.specs.declared.slips.Slip.{Slip}
use Rattle.repair_changes.specs.declared.slips.Slip.TheVariants as slip
use Rattle.repair_changes.specs.declared.spots.Spot.{Spot}
use Rattle.repair_changes.specs.declared.spots.Spot.TheVariants as spot

-- the event is in the file: one that a change added is on no line
abbrev pub is_in_file : Event → Bool
is_in_file event = not (event.line == 0)

-- the line of the first event in the file at a place or after it
abbrev pub next_line : List Event → (place : ℕ) → Option ℕ
next_line events place = option_map (λ event. event.line) (find is_in_file (drop place events))

-- the line of the last event in the file, or 0 if there is none
abbrev pub later_line : ℕ → Event → ℕ
later_line last event = if event.line == 0 then last else event.line

abbrev pub end_line : List Event → ℕ
end_line events = fold later_line 0 events

-- before the next line of the file if a line is missing there, and otherwise on it; after the last line if there is no next one
abbrev pub before_or_on : Slip → (line : ℕ) → Spot
before_or_on (slip.Missing missing) line = spot.Before line
before_or_on other line = spot.On line

abbrev pub spot_by : Slip → (next : Option ℕ) → (last : ℕ) → Spot
spot_by what None last = spot.After last
spot_by what (Some line) last = before_or_on what line

-- by the events that the changes before it make
abbrev pub later_spot : (made : List Event) → Change → Spot
later_spot made change = spot_by change.slip (next_line made change.place) (end_line made)
