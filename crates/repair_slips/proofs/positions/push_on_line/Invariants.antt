use Rattle.std.proofs.Common.{◌≡◌, ◌++◌}
use Rattle.repair_slips.specs.Each.{lists_below}
use Rattle.repair_slips.specs.Positions.{elsewhere}
use Rattle.repair_slips.proofs.positions.push_on_line.Given as goal

abbrev pub invariant-loop-place : goal.invariant-loop-place
invariant-loop-place l = l.slips.items ≡ l.initial.slips.items ++ lists_below (elsewhere l.dir l.at) l.place
