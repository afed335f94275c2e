use Rattle.std.proofs.Common.{◌≡◌, take}
use Rattle.std.specs.List.{fold}
use Rattle.repair_pairs.specs.Spots.{later_line}
use Rattle.repair_pairs.proofs.spots.end_line.Given as goal

abbrev pub invariant-loop-event : goal.invariant-loop-event
invariant-loop-event l = l.last ≡ fold later_line 0 (take l.event-index l.events)
