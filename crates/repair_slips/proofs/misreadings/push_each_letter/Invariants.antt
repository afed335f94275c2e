use Rattle.std.proofs.Common.{◌≡◌, ◌++◌}
use Rattle.repair_slips.specs.Each.{for_letter, lists_below}
use Rattle.repair_slips.specs.Misreadings.{misread_letter}
use Rattle.repair_slips.proofs.misreadings.push_each_letter.Given as goal

abbrev pub invariant-loop-number : goal.invariant-loop-number
invariant-loop-number l = l.slips.items ≡ l.initial.slips.items ++ lists_below (for_letter (misread_letter l.place l.tile)) l.number
