use Rattle.std.proofs.Common.{◌≡◌}
use Rattle.sheet_scores.specs.Gains.{gains_to}
use Rattle.sheet_scores.specs.Sums.{best_of}
use Rattle.sheet_scores.proofs.sums.gains_of.Given as goal

abbrev pub invariant-loop-place : goal.invariant-loop-place
invariant-loop-place l = l.gains ≡ gains_to l.player l.events (best_of l.rows) l.place
