use Rattle.std.proofs.Common.{◌≡◌, ◌++◌}
use Rattle.repair_slips.specs.Each.{for_next, lists_below}
use Rattle.repair_slips.specs.MissingLines.{missing_exchange}
use Rattle.repair_slips.proofs.missing.push_exchanges.Given as goal

abbrev pub invariant-loop-tiles : goal.invariant-loop-tiles
invariant-loop-tiles l = l.slips.items ≡ l.initial.slips.items ++ lists_below (for_next (missing_exchange l.player)) l.tiles
