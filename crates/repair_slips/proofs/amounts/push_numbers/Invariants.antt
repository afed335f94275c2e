use Rattle.std.proofs.Common.{◌≡◌, ◌++◌}
use Rattle.repair_slips.specs.Each.{for_next, lists_below}
use Rattle.repair_slips.specs.Amounts.{other_number}
use Rattle.repair_slips.proofs.amounts.push_numbers.Given as goal

abbrev pub invariant-loop-tiles : goal.invariant-loop-tiles
invariant-loop-tiles l = l.slips.items ≡ l.initial.slips.items ++ lists_below (for_next (other_number l.written)) l.tiles
