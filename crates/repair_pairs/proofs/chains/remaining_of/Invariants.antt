use Rattle.std.proofs.Common.{◌≡◌, take}
use Rattle.repair_pairs.specs.Totals.{remaining_of}
use Rattle.repair_pairs.proofs.chains.remaining_of.Given as goal

abbrev pub invariant-loop-step : goal.invariant-loop-step
invariant-loop-step l = l.remaining ≡ remaining_of (take l.step-index l.steps) l.events
