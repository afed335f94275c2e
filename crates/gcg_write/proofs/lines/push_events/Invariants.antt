use Rattle.std.proofs.Common.{◌≡◌, ◌++◌, take}
use Rattle.gcg_write.specs.Normal.{events_text}
use Rattle.gcg_write.proofs.lines.push_events.Given as goal

abbrev pub invariant-loop-event : goal.invariant-loop-event
invariant-loop-event l = l.out.items ≡ l.initial.out.items ++ events_text l.players (take l.event-index l.events)
