use Rattle.std.proofs.Common.{◌≡◌, map, take}
use Rattle.repair_changes.specs.Applied.{right_event}
use Rattle.repair_changes.proofs.applying.each_right.Given as goal

abbrev pub invariant-loop-event : goal.invariant-loop-event
invariant-loop-event l = l.events ≡ map (right_event l.slip) (take l.event-index l.there)
