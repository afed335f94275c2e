use Rattle.std.proofs.Common.{◌≡◌, ◌++◌}
use Rattle.repair_slips.specs.Each.{for_kind, lists_below}
use Rattle.repair_slips.specs.Misreadings.{misread_tiles}
use Rattle.repair_slips.proofs.misreadings.push_exchange.Given as goal

abbrev pub invariant-loop-number : goal.invariant-loop-number
invariant-loop-number l = l.slips.items ≡ l.initial.slips.items ++ lists_below (for_kind (misread_tiles l.rack l.exchanged)) l.number
