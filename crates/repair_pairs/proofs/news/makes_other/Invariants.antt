use Rattle.std.proofs.Common.{ℕ, ◌<◌, get_or}
use Rattle.repair_single.specs.Repairs.{SameRecord}
use Rattle.repair_single.specs.declared.repair.Repair.{Repair}
use Rattle.repair_pairs.proofs.news.makes_other.Given as goal

abbrev pub invariant-loop-single : goal.invariant-loop-single
invariant-loop-single l = record { none : (k : ℕ) (d : Repair) → k < l.single-index → SameRecord (get_or l.singles k d).right l.then.right → ⊥ }
