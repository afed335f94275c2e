-- A slip of the whole sheet, as an object.
use Rattle.std.specs.Prelude.{ℕ, ◌*◌, ◌==◌, ◌&&◌, nat_le, Bool, List, [], ◌∷◌, codes, length, map, slice_get, Option, Some, None, if◌then◌else◌}
use Rattle.std.specs.List.{filter_map, range_with_len}
use Rattle.std.specs.Option.{option_and_then}
use Rattle.json.specs.Json.{Json, boolean, string}
use Rattle.json_trees.specs.Values.{Field, array_of, count, object_of}
use Rattle.gcg_read.specs.declared.events.Event.{Event}
use Rattle.gcg_read.specs.declared.players.Players.{Players}
use Rattle.repair_sheets.specs.declared.slips.SheetSlip.{SheetSlip}
use Rattle.repair_sheets.specs.declared.slips.SheetSlip.TheVariants as sheet
use Rattle.repair_sheets.specs.Righting.{changes}
use Rattle.repair_sheets.specs.Weights.{weight_of}
use Rattle.repair_answers.specs.declared.sheet_repair.SheetRepair.{SheetRepair}
use Rattle.repair_json.specs.Changes.{events_value}
use Rattle.repair_json.specs.Evidence.{evidence_object}
use Rattle.repair_json.specs.Slips.{sheet_slip_name}

-- whether a slip changes the event that has this place among the right ones
abbrev pub is_changed : SheetSlip → (place : ℕ) → Event → Bool
is_changed (sheet.Unread unread) place event = unread.line == event.line
is_changed (sheet.ExtraMark number) place event = number == event.line
is_changed (sheet.NoPlace number at dir) place event = number == event.line
is_changed (sheet.Running first what) place event = nat_le first place && changes what event.kind

abbrev pub if_changed : SheetSlip → (place : ℕ) → Event → Option Event
if_changed what place event = if is_changed what place event then Some event else None

abbrev pub changed_at : SheetSlip → (right : List Event) → (place : ℕ) → Option Event
changed_at what right place = option_and_then (if_changed what place) (slice_get right place)

-- the right events whose lines a slip changes
abbrev pub changed_to : SheetSlip → (right : List Event) → (many : ℕ) → List Event
changed_to what right many = filter_map (changed_at what right) (range_with_len 0 many)

abbrev pub changed_events : SheetRepair → List Event
changed_events repair = changed_to repair.slip repair.right (length repair.right)

-- these lines
abbrev pub line_of : Event → ℕ
line_of event = event.line

abbrev pub changed_lines : SheetRepair → List ℕ
changed_lines repair = map line_of (changed_events repair)

abbrev pub numbers_value : List ℕ → Json
numbers_value lines = array_of (map count lines)

-- the first of some lines, or 0 if there is none
abbrev pub first_of : List ℕ → ℕ
first_of [] = 0
first_of (line ∷ lines) = line

abbrev pub sheet_evidence : SheetRepair → Json
sheet_evidence repair = evidence_object repair.alone.remains (2 * length repair.right)

-- what is wrong, the first line that the slip changes, all these lines, what comes in their place, whether a deal was found without it, what it weighs, what
-- the repair costs, and the evidence
abbrev pub sheet_fields : Players → SheetRepair → List Field
sheet_fields players repair =
    (codes "slip", string (sheet_slip_name repair.slip))
    ∷ (codes "line", count (first_of (changed_lines repair)))
    ∷ (codes "replaces", numbers_value (changed_lines repair))
    ∷ (codes "lines", events_value players (changed_events repair))
    ∷ (codes "settled", boolean repair.alone.is_game)
    ∷ (codes "weight", count (weight_of repair.slip))
    ∷ (codes "cost", count repair.cost)
    ∷ (codes "evidence", sheet_evidence repair)
    ∷ []

abbrev pub sheet_object : Players → SheetRepair → Json
sheet_object players repair = object_of (sheet_fields players repair)

-- the same as a repair, on the first line that it changes
abbrev pub whole_fields : Players → SheetRepair → List Field
whole_fields players repair =
    (codes "at", string (codes "on"))
    ∷ (codes "line", count (first_of (changed_lines repair)))
    ∷ (codes "slip", string (sheet_slip_name repair.slip))
    ∷ (codes "replaces", numbers_value (changed_lines repair))
    ∷ (codes "lines", events_value players (changed_events repair))
    ∷ (codes "others", array_of [])
    ∷ (codes "weight", count (weight_of repair.slip))
    ∷ (codes "cost", count repair.cost)
    ∷ (codes "evidence", sheet_evidence repair)
    ∷ []

abbrev pub whole_object : Players → SheetRepair → Json
whole_object players repair = object_of (whole_fields players repair)
