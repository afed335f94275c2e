use Rattle.std.proofs.Common.{◌≡◌, ◌++◌, take}
use Rattle.gcg_read.proofs.events.Events.push_copies.Given as goal

abbrev pub invariant-loop-event : goal.invariant-loop-event
invariant-loop-event l = l.self ≡ l.initial.self ++ take l.event-index l.more
