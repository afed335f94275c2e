use Rattle.std.proofs.Common.{ℕ, ◌<◌, get_or}
use Rattle.repair_single.specs.Repairs.{SameRecord}
use Rattle.repair_single.specs.declared.repair.Repair.{Repair}
use Rattle.repair_single.proofs.comparing.is_among.Given as goal

abbrev pub invariant-loop-repair : goal.invariant-loop-repair
invariant-loop-repair l = record { none : (k : ℕ) (d : Repair) → k < l.repair-index → SameRecord (get_or l.reported k d).right l.right → ⊥ }
