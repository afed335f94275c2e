-- The single changes of a record.
use Rattle.std.specs.Prelude.{ℕ, ◌+◌, List, [], ◌++◌, map, length, slice_get, Option, Some, None}
use Rattle.ref_tiles.specs.declared.rulebook.Rules.{Rules}
use Rattle.gcg_read.specs.declared.events.Event.{Event}
use Rattle.game_turns.specs.Tallies.{State, tally_at}
use Rattle.repair_changes.specs.declared.slips.Slip.{Slip}
use Rattle.repair_changes.specs.declared.slips.Change.{Change}
use Rattle.repair_slips.specs.Each.{lists_below}
use Rattle.repair_slips.specs.Lines.{event_slips}
use Rattle.repair_slips.specs.MissingLines.{missing_slips}

-- what may be wrong with the event at a place, if there is one
abbrev pub slips_of_event : Rules → State → (events : List Event) → (place : ℕ) → Option Event → List Slip
slips_of_event rules s events place None = []
slips_of_event rules s events place (Some e) = event_slips rules s events place e

-- What may be wrong at a place, by the state before it: with its event, and with what is missing before it.
unfoldable pub slips_by : Rules → State → (events : List Event) → (place : ℕ) → List Slip
slips_by rules s events place = slips_of_event rules s events place (slice_get events place) ++ missing_slips rules s events place

abbrev pub change_at : (place : ℕ) → Slip → Change
change_at place what = record { place = place; slip = what }

-- the changes at a place of a record, by the tally there
abbrev pub changes_at : Rules → (events : List Event) → (place : ℕ) → List Change
changes_at rules events place = map (change_at place) (slips_by rules (tally_at rules events place) events place)

-- The single changes of a record: those at the place of each event, and after the last.
unfoldable pub changes : Rules → (events : List Event) → List Change
changes rules events = lists_below (changes_at rules events) (length events + 1)
