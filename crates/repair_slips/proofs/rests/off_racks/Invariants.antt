use Rattle.std.proofs.Common.{◌≡◌, drop}
use Rattle.repair_slips.specs.Rests.{off_racks}
use Rattle.repair_slips.proofs.rests.off_racks.Given as goal

abbrev pub invariant-loop-event : goal.invariant-loop-event
invariant-loop-event l = off_racks l.rest (drop l.event-index l.events) ≡ off_racks l.counts l.events
