use Rattle.std.proofs.Common.{ℕ, ◌+◌, sum_by, ap, sym, ◌∙◌, arith}
use Rattle.std.specs.List.{range_with_len}
use Rattle.ref_board.specs.Cells.{tile_at}
use Rattle.ref_play.specs.Formed.{along}
use Rattle.ref_play.specs.Scores.{points_on}
use Rattle.ref_play.proofs.ScoreLemmas.{sum_range_more}
use Rattle.gen_cross.proofs.values.side_of.Goals as goal

pub loop-k-preserved : goal.loop-k-preserved
loop-k-preserved c =
    let run = c.args.run.now in
    let points : ℕ → ℕ = λ k. points_on c.args.rules.now (tile_at c.args.board.now (along run.dir run.start k)) in
    let here = c.points_on.ensures.points ∙ ap (points_on c.args.rules.now) (c.at.ensures ∙ ap (tile_at c.args.board.now) c.along.ensures) in
    let limit = c.points_on.ensures.limit in
    record {
      points = ap (λ k. k + c.points_on.result) c.loop-k.invariant.points ∙ ap (λ k. sum_by points (range_with_len 0 c.loop-k.k) + k) here ∙ sym (sum_range_more points c.loop-k.k);
      limit = omega arith;
    }
