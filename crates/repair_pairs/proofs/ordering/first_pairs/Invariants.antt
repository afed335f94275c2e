use Rattle.std.proofs.Common.{length}
use Rattle.repair_pairs.proofs.Firsts.{AreSoFar}
use Rattle.repair_pairs.proofs.ordering.first_pairs.Given as goal

abbrev pub invariant-loop-pair : goal.invariant-loop-pair
invariant-loop-pair l = record { so_far : AreSoFar l.fn.found.items l.fn.most (length l.yielded) l.reported.items }
