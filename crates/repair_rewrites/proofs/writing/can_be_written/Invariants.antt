use Rattle.std.proofs.Common.{take}
use Rattle.repair_rewrites.specs.Names.{AreNamed}
use Rattle.repair_rewrites.proofs.writing.can_be_written.Given as goal

abbrev pub invariant-loop-event : goal.invariant-loop-event
invariant-loop-event l = AreNamed l.players (take l.event-index l.right)
