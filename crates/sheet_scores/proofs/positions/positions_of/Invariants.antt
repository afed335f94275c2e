use Rattle.sheet_scores.specs.Positions.{ArePositions}
use Rattle.sheet_scores.proofs.positions.positions_of.Given as goal

abbrev pub invariant-loop-place : goal.invariant-loop-place
invariant-loop-place l = ArePositions l.rules l.events l.pictures l.place l.positions.items
