-- A change, and a repair, as objects.
use Rattle.std.specs.Prelude.{ℕ, List, [], ◌∷◌, codes, drop, length, map, slice_get, take, Option, option_map}
use Rattle.std.specs.List.{filter_map}
use Rattle.std.specs.Option.{option_and_then}
use Rattle.json.specs.Json.{Json, string}
use Rattle.json_trees.specs.Values.{Field, array_of, count, object_of, text}
use Rattle.gcg_read.specs.declared.events.Event.{Event}
use Rattle.gcg_read.specs.declared.players.Players.{Players}
use Rattle.gcg_write.specs.Normal.{event_line}
use Rattle.gcg_drafts.specs.declared.missing.Missing.{Missing}
use Rattle.draft_numbers.specs.Counting.{numbers_to_go_by}
use Rattle.repair_changes.specs.declared.slips.Change.{Change}
use Rattle.repair_changes.specs.declared.spots.Spot.{Spot}
use Rattle.repair_changes.specs.declared.spots.Spot.TheVariants as spot
use Rattle.repair_changes.specs.Applied.{lines_there, wrong_events}
use Rattle.repair_changes.specs.Spots.{spot_of}
use Rattle.repair_changes.specs.Weights.{weight_of}
use Rattle.repair_single.specs.declared.repair.Repair.{Repair}
use Rattle.repair_answers.specs.Alike.{cost_in}
use Rattle.repair_json.specs.Evidence.{evidence_object}
use Rattle.repair_json.specs.Slips.{slip_name}

-- whether the change is on a line, or a line is missing before it or after it
abbrev pub at_word : Spot → List ℕ
at_word (spot.On line) = codes "on"
at_word (spot.Before line) = codes "before"
at_word (spot.After line) = codes "after"

-- that line
abbrev pub line_in : Spot → ℕ
line_in (spot.On line) = line
line_in (spot.Before line) = line
line_in (spot.After line) = line

-- so many events from a place on, or as many as there are
abbrev pub part_of : List Event → (place number : ℕ) → List Event
part_of events place number = take number (drop place events)

-- the lines of events
abbrev pub line_value : Event → Json
line_value event = count event.line

abbrev pub lines_value : List Event → Json
lines_value events = array_of (map line_value events)

-- an event as records write it
abbrev pub event_value : Players → Event → Json
event_value players event = text (event_line players event)

abbrev pub events_value : Players → List Event → Json
events_value players events = array_of (map (event_value players) events)

-- the events that a change replaces, and what comes in their place
abbrev pub replaced : List Event → Change → List Event
replaced events change = part_of events change.place (wrong_events change.slip)

abbrev pub coming : (right : List Event) → Change → List Event
coming right change = part_of right change.place (lines_there change.slip)

-- one of several changes: where it is, what is wrong there, the lines that it replaces, and what comes in their place
abbrev pub change_fields : Players → (events : List Event) → Change → Spot → (right : List Event) → List Field
change_fields players events change where_it_is right =
    (codes "at", string (at_word where_it_is))
    ∷ (codes "line", count (line_in where_it_is))
    ∷ (codes "slip", string (slip_name change.slip))
    ∷ (codes "replaces", lines_value (replaced events change))
    ∷ (codes "lines", events_value players (coming right change))
    ∷ []

abbrev pub change_object : Players → (events : List Event) → Change → Spot → (right : List Event) → Json
change_object players events change where_it_is right = object_of (change_fields players events change where_it_is right)

-- what a repair puts at its place
abbrev pub put_by : Players → Repair → Option Json
put_by players repair = option_map (event_value players) (slice_get repair.right repair.listed.change.place)

-- the same of one of several repairs
abbrev pub put_at : Players → List Repair → (index : ℕ) → Option Json
put_at players repairs index = option_and_then (put_by players) (slice_get repairs index)

-- a repair with the numbers of those that share its line: where it is, what is wrong there, the lines that it replaces, what comes in their place, what the
-- others put there, what the slip weighs, what the repair costs, and the evidence, which of a draft is in the
-- numbers that its lines do not lack
abbrev pub repair_fields : Players → (events : List Event) → (lacks : List Missing) → List Repair → Repair → (others : List ℕ) → List Field
repair_fields players events lacks repairs repair others =
    (codes "at", string (at_word (spot_of events repair.listed.change)))
    ∷ (codes "line", count (line_in (spot_of events repair.listed.change)))
    ∷ (codes "slip", string (slip_name repair.listed.change.slip))
    ∷ (codes "replaces", lines_value (replaced events repair.listed.change))
    ∷ (codes "lines", events_value players (coming repair.right repair.listed.change))
    ∷ (codes "others", array_of (filter_map (put_at players repairs) others))
    ∷ (codes "weight", count (weight_of repair.listed.change.slip))
    ∷ (codes "cost", count (cost_in repair))
    ∷ (codes "evidence", evidence_object repair.remains (numbers_to_go_by lacks repair.listed.change (length events)))
    ∷ []

abbrev pub repair_object : Players → (events : List Event) → (lacks : List Missing) → List Repair → Repair → (others : List ℕ) → Json
repair_object players events lacks repairs repair others = object_of (repair_fields players events lacks repairs repair others)

-- a single repair of a record
abbrev pub single_object : Players → (events : List Event) → Repair → Json
single_object players events repair = repair_object players events [] [] repair []
