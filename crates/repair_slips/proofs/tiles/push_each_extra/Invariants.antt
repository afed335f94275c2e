use Rattle.std.proofs.Common.{◌≡◌, ◌++◌}
use Rattle.repair_slips.specs.Each.{lists_below}
use Rattle.repair_slips.specs.Each.{for_kind}
use Rattle.repair_slips.specs.Tiles.{extra_tile}
use Rattle.repair_slips.proofs.tiles.push_each_extra.Given as goal

abbrev pub invariant-loop-number : goal.invariant-loop-number
invariant-loop-number l = l.slips.items ≡ l.initial.slips.items ++ lists_below (for_kind (extra_tile l.of l.counts)) l.number
