use Rattle.std.proofs.Common.{◌≡◌, ◌++◌}
use Rattle.repair_slips.specs.Each.{lists_below}
use Rattle.repair_slips.specs.Each.{for_letter}
use Rattle.repair_slips.specs.Spellings.{letter_for_dot}
use Rattle.repair_slips.proofs.spellings.push_letters_for_dot.Given as goal

abbrev pub invariant-loop-number : goal.invariant-loop-number
invariant-loop-number l = l.slips.items ≡ l.initial.slips.items ++ lists_below (for_letter (letter_for_dot l.place)) l.number
