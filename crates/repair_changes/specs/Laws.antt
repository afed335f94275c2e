-- Laws: what a change leaves as it was, and in what it differs from that.
use Rattle.std.specs.Prelude.{◌≡◌, ◌⊎◌, ℕ, ◌<◌, List, slice_get}
use Rattle.gcg_read.specs.declared.events.Event.{Event}
use Rattle.repair_changes.specs.declared.slips.Change.{Change}
use Rattle.repair_changes.specs.Applied.{applied}
use Rattle.repair_changes.specs.Differences.{RecordsDiffer}

-- the events before a change stay as they are
abbrev pub FrontStays : Type 0
FrontStays = (change : Change) (events : List Event) (place : ℕ) → place < change.place → slice_get (applied change events) place ≡ slice_get events place

-- a change makes no more of a record than its slip says: the record stays, or it differs in that at the place of the change
abbrev pub NothingMore : Type 0
NothingMore = (change : Change) (events : List Event) → (applied change events ≡ events) ⊎ RecordsDiffer change.slip change.place events (applied change events)
