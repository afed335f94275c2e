use Rattle.std.proofs.Common.{◌≡◌, reverse, take}
use Rattle.explain_clues.specs.Totals.{latest_with}
use Rattle.explain_clues.proofs.totals.latest_with.Given as goal

abbrev pub invariant-loop-event : goal.invariant-loop-event
invariant-loop-event l = l.found ≡ latest_with l.player l.score (reverse (take l.event-index l.events))
