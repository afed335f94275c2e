use Rattle.repair_pairs.specs.Finding.{ArePairsSoFar}
use Rattle.repair_pairs.proofs.finding.pairs_of.Given as goal

abbrev pub invariant-loop-at : goal.invariant-loop-at
invariant-loop-at l = record { so_far : ArePairsSoFar l.rules l.list l.events l.singles l.pairs }
