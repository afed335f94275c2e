-- Where a change is in the file.
use Rattle.std.specs.Prelude.{ℕ, List, [], ◌∷◌, slice_get, Option, Some, None}
use Rattle.std.specs.Option.{option_map}
use Rattle.gcg_read.specs.declared.events.Event.{Event}
use Rattle.repair_changes.specs.declared.slips.Change.{Change}
use Rattle.repair_changes.specs.declared.slips.Slip.{Slip}
use Rattle.repair_changes.specs.declared.slips.Slip.TheVariants as slip
use Rattle.repair_changes.specs.declared.spots.Spot.{Spot}
use Rattle.repair_changes.specs.declared.spots.Spot.TheVariants as spot

-- the line of the event at a place; none after the last
abbrev pub line_at : List Event → (place : ℕ) → Option ℕ
line_at events place = option_map (λ (e : Event). e.line) (slice_get events place)

-- the line of the last event, or 0 if there is none
abbrev pub last_line : List Event → ℕ
last_line [] = 0
last_line (e ∷ []) = e.line
last_line (e ∷ next ∷ events) = last_line (next ∷ events)

-- where a missing line belongs: before the line of the event at its place, or after the last
abbrev pub before_line : List Event → Option ℕ → Spot
before_line events (Some line) = spot.Before line
before_line events None = spot.After (last_line events)

-- where a change of a line is
abbrev pub on_line : List Event → Option ℕ → Spot
on_line events (Some line) = spot.On line
on_line events None = spot.After (last_line events)

abbrev pub spot_by : Slip → List Event → Option ℕ → Spot
spot_by (slip.Missing line) events at = before_line events at
spot_by other events at = on_line events at

abbrev pub spot_of : List Event → Change → Spot
spot_of events change = spot_by change.slip events (line_at events change.place)
