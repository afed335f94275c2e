use Rattle.std.proofs.Common.{◌≡◌, length}
use Rattle.game_corrections.specs.LastTotals.{last_line}
use Rattle.game_corrections.proofs.last_totals.last_line.Given as goal

abbrev pub invariant-loop-event : goal.invariant-loop-event
invariant-loop-event l = last_line l.player l.remaining ≡ last_line l.player l.events

abbrev pub decreases-loop-event : goal.decreases-loop-event
decreases-loop-event l = length l.remaining
