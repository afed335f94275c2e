use Rattle.std.proofs.Common.{◌≡◌}
use Rattle.deal_steps.specs.Bounds.{first_bound}
use Rattle.deal_steps.specs.Knowing.{IsKnown}
use Rattle.deal_steps.proofs.KnownLaws.{past_at, bound_from}
use Rattle.deal_steps.proofs.bounding.known_after.Given as goal

abbrev pub invariant-loop-step : goal.invariant-loop-step
invariant-loop-step l = IsKnown (past_at l.fn.steps l.step-index) l.known × (first_bound l.fn.rules l.fn.steps ≡ bound_from l.fn.rules l.fn.steps l.step-index)
