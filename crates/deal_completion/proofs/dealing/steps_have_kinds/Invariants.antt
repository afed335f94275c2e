use Rattle.std.proofs.Common.{drop}
use Rattle.deal_steps.specs.Runs.{HaveKinds}
use Rattle.deal_completion.proofs.dealing.steps_have_kinds.Given as goal

abbrev pub invariant-loop-step : goal.invariant-loop-step
invariant-loop-step l = HaveKinds (drop l.step-index l.steps) → HaveKinds l.steps
