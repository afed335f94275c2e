use Rattle.repair_answers.proofs.Grouped.{AreUnlike}
use Rattle.repair_answers.proofs.evidence.is_first.Given as goal

abbrev pub invariant-loop-before : goal.invariant-loop-before
invariant-loop-before g l = record { unlike : AreUnlike g.T.Lined.like l.items l.index l.before }
