use Rattle.std.proofs.Common.{◌≤◌, length, drop}
use Rattle.gcg_numbers.specs.Fields.{AreOf}
use Rattle.gcg_numbers.proofs.cutting.count_before.Given as goal

abbrev pub invariant-loop-end : goal.invariant-loop-end
invariant-loop-end l = (l.end ≤ length l.text) × AreOf l.blank (drop l.end l.text)

abbrev pub decreases-loop-end : goal.decreases-loop-end
decreases-loop-end l = l.end
