use Rattle.std.proofs.Common.{◌≡◌, ◌*◌, ◌≤◌, sum_by, slice_index}
use Rattle.std.specs.List.{range_with_len}
use Rattle.game_turns.proofs.amounts.points_in.Given as goal

abbrev pub invariant-loop-index : goal.invariant-loop-index
invariant-loop-index l =
    record {
      points : l.points ≡ sum_by (λ k. slice_index l.tiles k * slice_index l.rules.points k) (range_with_len 0 l.index);
      limit : l.points ≤ 25245 * l.index;
    }
