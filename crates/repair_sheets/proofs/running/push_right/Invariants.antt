use Rattle.std.proofs.Common.{◌≡◌, ◌++◌, map, take}
use Rattle.repair_sheets.specs.Righting.{right_event}
use Rattle.repair_sheets.proofs.running.push_right.Given as goal

abbrev pub invariant-loop-event : goal.invariant-loop-event
invariant-loop-event l = l.events ≡ l.initial.events ++ map (right_event l.slip) (take l.event-index l.more)
