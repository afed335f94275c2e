use Rattle.std.proofs.Common.{◌≡◌, drop}
use Rattle.std.specs.List.{list_any}
use Rattle.deal_steps.specs.Steps.{ends_epoch}
use Rattle.explain_facts.proofs.racks.any_ends_epoch.Given as goal

abbrev pub invariant-loop-step : goal.invariant-loop-step
invariant-loop-step l = list_any (ends_epoch l.player) (drop l.step-index l.steps) ≡ list_any (ends_epoch l.player) l.steps
