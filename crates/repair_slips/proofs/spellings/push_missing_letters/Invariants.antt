use Rattle.std.proofs.Common.{◌≡◌, ◌++◌}
use Rattle.repair_slips.specs.Each.{lists_below}
use Rattle.repair_slips.specs.Each.{for_letter}
use Rattle.repair_slips.specs.Spellings.{missing_letter}
use Rattle.repair_slips.proofs.spellings.push_missing_letters.Given as goal

abbrev pub invariant-loop-number : goal.invariant-loop-number
invariant-loop-number l = l.slips.items ≡ l.initial.slips.items ++ lists_below (for_letter (missing_letter l.place)) l.number
