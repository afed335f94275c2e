use Rattle.std.proofs.Common.{◌≡◌, ◌*◌, ◌≤◌, sum_by}
use Rattle.std.specs.List.{range_with_len}
use Rattle.ref_board.specs.Cells.{tile_at}
use Rattle.ref_play.specs.Formed.{along}
use Rattle.ref_play.specs.Scores.{points_on}
use Rattle.gen_cross.proofs.values.side_of.Given as goal

abbrev pub invariant-loop-k : goal.invariant-loop-k
invariant-loop-k l =
    record {
      points : l.points ≡ sum_by (λ k. points_on l.rules (tile_at l.board (along l.run.dir l.run.start k))) (range_with_len 0 l.k);
      limit : l.points ≤ 99 * l.k;
    }
