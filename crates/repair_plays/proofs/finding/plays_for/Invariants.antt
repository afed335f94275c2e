use Rattle.repair_plays.specs.PlayChanges.{ArePlayChanges}
use Rattle.repair_plays.proofs.finding.plays_for.Given as goal

abbrev pub invariant-loop-place : goal.invariant-loop-place
invariant-loop-place l = ArePlayChanges l.events l.walk l.changes.items
