use Rattle.std.proofs.Common.{◌≡◌, map, take}
use Rattle.compare_alignments.specs.Seats.{in_other_seat}
use Rattle.compare_alignments.proofs.seats.in_other_seats.Given as goal

abbrev pub invariant-loop-event : goal.invariant-loop-event
invariant-loop-event l = l.others ≡ map in_other_seat (take l.event-index l.events)
