use Rattle.std.proofs.Common.{◌≡◌, drop}
use Rattle.deal_steps.specs.Steps.{opener}
use Rattle.deal_steps.proofs.steps.opener.Given as goal

abbrev pub invariant-loop-step : goal.invariant-loop-step
invariant-loop-step l = opener (drop l.step-index l.steps) ≡ opener l.steps
