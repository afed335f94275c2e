use Rattle.std.proofs.Common.{◌≡◌}
use Rattle.sheet_scores.specs.Gains.{gains_to}
use Rattle.game_answers.specs.Leaving.{best_of}
use Rattle.game_answers.proofs.leaving.points_remaining.Given as goal

abbrev pub invariant-loop-place : goal.invariant-loop-place
invariant-loop-place l = l.remaining ≡ gains_to l.player l.events (best_of l.answers) l.place
