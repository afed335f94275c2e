use Rattle.std.proofs.Common.{ℕ, ◌<◌, get_or}
use Rattle.repair_single.specs.Repairs.{SameRecord}
use Rattle.repair_pairs.specs.declared.found.Pair.{Pair}
use Rattle.repair_pairs.proofs.ordering.is_made_by.Given as goal

abbrev pub invariant-loop-pair : goal.invariant-loop-pair
invariant-loop-pair l = record { none : (k : ℕ) (d : Pair) → k < l.pair-index → SameRecord (get_or l.reported k d).then.right l.right → ⊥ }
