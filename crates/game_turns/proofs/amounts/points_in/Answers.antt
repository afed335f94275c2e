use Rattle.std.proofs.Common.{◌≤◌, ◌<◌, ℕ, ◌+◌, ◌*◌, ap, sym, ◌∙◌, arith, slice_index, sum_by}
use Rattle.std.specs.List.{range_with_len}
use Rattle.ref_play.proofs.ScoreLemmas.{sum_range_more}
use Rattle.game_turns.proofs.Lists.{points_limit}
use Rattle.game_turns.proofs.amounts.points_in.Goals as goal

pub loop-index-preserved : goal.loop-index-preserved
loop-index-preserved c =
    let tiles = c.args.tiles.now in
    let points = c.args.rules.now.points in
    let i = c.loop-index.index in
    let each : ℕ → ℕ = λ k. slice_index tiles k * slice_index points k in
    let many : c.count.result ≤ 255 = let below : c.count.result < 256 = c.count.type_inv in omega arith in
    let limit = points_limit c.count.result c.points_of.result many c.points_of.ensures.limit in
    record {
      points = ap (λ n. n + c.count.result * c.points_of.result) c.loop-index.invariant.points
          ∙ ap (λ n. sum_by each (range_with_len 0 i) + n * c.points_of.result) c.count.ensures
          ∙ ap (λ n. sum_by each (range_with_len 0 i) + slice_index tiles i * n) c.points_of.ensures.points
          ∙ sym (sum_range_more each i);
      limit = omega (arith, c.loop-index.invariant.limit);
    }
