use Rattle.std.proofs.Common.{◌≡◌, ◌++◌}
use Rattle.repair_slips.specs.Each.{lists_below}
use Rattle.repair_slips.specs.Spellings.{slips_at_symbol}
use Rattle.repair_slips.proofs.spellings.push_other_symbols.Given as goal

abbrev pub invariant-loop-place : goal.invariant-loop-place
invariant-loop-place l = l.slips.items ≡ l.initial.slips.items ++ lists_below (slips_at_symbol l.word) l.place
