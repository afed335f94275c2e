use Rattle.std.proofs.Common.{◌≡◌, take}
use Rattle.explain_facts.specs.Deals.{clash_lines}
use Rattle.explain_facts.proofs.clashes.clash_lines.Given as goal

abbrev pub invariant-loop-step : goal.invariant-loop-step
invariant-loop-step l = l.lines.items ≡ clash_lines (take l.step-index l.steps)
