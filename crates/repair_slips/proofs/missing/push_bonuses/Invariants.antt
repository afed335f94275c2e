use Rattle.std.proofs.Common.{◌≡◌, ◌++◌}
use Rattle.repair_slips.specs.Each.{for_next, lists_below}
use Rattle.repair_slips.specs.MissingLines.{missing_bonus}
use Rattle.repair_slips.proofs.missing.push_bonuses.Given as goal

abbrev pub invariant-loop-words : goal.invariant-loop-words
invariant-loop-words l = l.slips.items ≡ l.initial.slips.items ++ lists_below (for_next (missing_bonus l.rules l.player)) l.words
