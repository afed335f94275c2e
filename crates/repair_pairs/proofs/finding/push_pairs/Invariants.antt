use Rattle.repair_pairs.specs.Finding.{AddsPairs}
use Rattle.repair_pairs.proofs.finding.push_pairs.Given as goal

abbrev pub invariant-loop-then : goal.invariant-loop-then
invariant-loop-then l = record { so_far : AddsPairs l.singles l.made l.fn.head l.fn.weight l.fn.found.items l.fn.reported.items l.reported.items }
