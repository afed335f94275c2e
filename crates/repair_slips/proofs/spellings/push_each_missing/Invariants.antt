use Rattle.std.proofs.Common.{◌≡◌, ◌++◌}
use Rattle.repair_slips.specs.Each.{lists_below}
use Rattle.repair_slips.specs.Spellings.{missing_symbol}
use Rattle.repair_slips.proofs.spellings.push_each_missing.Given as goal

abbrev pub invariant-loop-place : goal.invariant-loop-place
invariant-loop-place l = l.slips.items ≡ l.initial.slips.items ++ lists_below missing_symbol l.place
