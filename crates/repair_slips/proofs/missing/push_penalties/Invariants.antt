use Rattle.std.proofs.Common.{◌≡◌, ◌++◌}
use Rattle.repair_slips.specs.Each.{for_next, lists_below}
use Rattle.repair_slips.specs.MissingLines.{missing_penalty}
use Rattle.repair_slips.proofs.missing.push_penalties.Given as goal

abbrev pub invariant-loop-steps : goal.invariant-loop-steps
invariant-loop-steps l = l.slips.items ≡ l.initial.slips.items ++ lists_below (for_next (missing_penalty l.rules l.early l.player)) l.steps
