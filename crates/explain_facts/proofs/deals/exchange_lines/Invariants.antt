use Rattle.std.proofs.Common.{◌≡◌, take}
use Rattle.explain_facts.specs.Deals.{exchange_lines}
use Rattle.explain_facts.proofs.deals.exchange_lines.Given as goal

abbrev pub invariant-loop-step : goal.invariant-loop-step
invariant-loop-step l = l.lines.items ≡ exchange_lines (take l.step-index l.steps)
