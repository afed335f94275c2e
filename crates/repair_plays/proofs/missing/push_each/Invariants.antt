use Rattle.repair_plays.specs.PlayChanges.{ArePlayChanges}
use Rattle.repair_plays.proofs.missing.push_each.Given as goal

abbrev pub invariant-loop-play : goal.invariant-loop-play
invariant-loop-play l = ArePlayChanges l.events l.walk l.changes.items
