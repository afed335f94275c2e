use Rattle.std.proofs.Common.{ℕ, ◌<◌, get_or}
use Rattle.repair_single.specs.declared.repair.Repair.{Repair}
use Rattle.compare_repaired.specs.Repaired.{IsAfter}
use Rattle.compare_repaired.proofs.ahead.are_after.Given as goal

abbrev pub invariant-loop-other : goal.invariant-loop-other
invariant-loop-other l = record { following : (k : ℕ) (d : Repair) → k < l.other-index → IsAfter l.best (get_or l.reported k d) }
