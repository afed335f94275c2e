use Rattle.std.proofs.Common.{◌≡◌, ◌*◌, ◌≤◌, sum_by}
use Rattle.std.specs.List.{range_with_len}
use Rattle.ref_play.specs.Formed.{along}
use Rattle.ref_play.specs.Scores.{square_points}
use Rattle.ref_play.proofs.scoring.letters_score.Given as goal

abbrev pub invariant-loop-k : goal.invariant-loop-k
invariant-loop-k l =
    record {
      points : l.points ≡ sum_by (λ k. square_points l.rules l.after l.tiles (along l.run.dir l.run.start k)) (range_with_len 0 l.k);
      limit : l.points ≤ 297 * l.k;
    }
