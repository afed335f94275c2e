use Rattle.std.proofs.Common.{◌≡◌, ◌*◌, ◌≤◌, sum_by, take}
use Rattle.ref_play.specs.Scores.{run_score}
use Rattle.ref_play.proofs.scoring.runs_score.Given as goal

abbrev pub invariant-loop-run : goal.invariant-loop-run
invariant-loop-run l =
    record {
      score : l.score ≡ sum_by (run_score l.rules l.after l.tiles) (take l.run-index l.runs);
      limit : l.score ≤ 9743085 * l.run-index;
    }
