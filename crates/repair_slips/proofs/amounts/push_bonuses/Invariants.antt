use Rattle.std.proofs.Common.{◌≡◌, ◌++◌}
use Rattle.repair_slips.specs.Each.{for_next, lists_below}
use Rattle.repair_slips.specs.Amounts.{other_bonus}
use Rattle.repair_slips.proofs.amounts.push_bonuses.Given as goal

abbrev pub invariant-loop-words : goal.invariant-loop-words
invariant-loop-words l = l.slips.items ≡ l.initial.slips.items ++ lists_below (for_next (other_bonus l.rules l.written)) l.words
