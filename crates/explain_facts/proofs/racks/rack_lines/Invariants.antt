use Rattle.std.proofs.Common.{◌≡◌, reverse, take}
use Rattle.explain_facts.specs.Racks.{rack_lines}
use Rattle.explain_facts.proofs.racks.rack_lines.Given as goal

abbrev pub invariant-loop-step : goal.invariant-loop-step
invariant-loop-step l = l.lines.items ≡ rack_lines l.player (reverse (take l.step-index l.past))
