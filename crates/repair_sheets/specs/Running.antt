-- The events of a record without a slip that runs through its sheet.
use Rattle.std.specs.Prelude.{ℕ, List, ◌++◌, map, take, drop, Option, Some, None, if◌then◌else◌}
use Rattle.std.specs.List.{list_all}
use Rattle.gcg_read.specs.declared.events.Event.{Event}
use Rattle.repair_sheets.specs.declared.slips.RunningSlip.{RunningSlip}
use Rattle.repair_sheets.specs.Righting.{may_have, right_event}

-- From a place on each event is without the slip, and those before it stay. None if the slip cannot be on each of these lines.
unfoldable pub running_without : RunningSlip → (place : ℕ) → List Event → Option (List Event)
running_without s place events =
    if list_all (λ (e : Event). may_have s e.kind) (drop place events) then Some (take place events ++ map (right_event s) (drop place events)) else None
