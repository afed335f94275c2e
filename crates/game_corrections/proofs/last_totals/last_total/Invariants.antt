use Rattle.std.proofs.Common.{◌≡◌, length}
use Rattle.game_corrections.specs.LastTotals.{last_total}
use Rattle.game_corrections.proofs.last_totals.last_total.Given as goal

abbrev pub invariant-loop-event : goal.invariant-loop-event
invariant-loop-event l = last_total l.player l.remaining ≡ last_total l.player l.events

abbrev pub decreases-loop-event : goal.decreases-loop-event
decreases-loop-event l = length l.remaining
