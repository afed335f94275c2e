use Rattle.std.proofs.Common.{ℕ, ◌+◌, sum_by, ap, sym, ◌∙◌, arith, rules}
use Rattle.std.specs.List.{range_with_len}
use Rattle.ref_play.specs.Formed.{along}
use Rattle.ref_play.specs.Scores.{square_points, letters_score}
use Rattle.ref_play.proofs.ScoreLemmas.{sum_range_more}
use Rattle.ref_play.proofs.scoring.letters_score.Goals as goal

pub loop-k-preserved : goal.loop-k-preserved
loop-k-preserved c =
    let run = c.args.run.now in
    let points : ℕ → ℕ = λ k. square_points c.args.rules.now c.args.after.now c.args.tiles.now (along run.dir run.start k) in
    let here = c.square_points-points.ensures.points ∙ ap (square_points c.args.rules.now c.args.after.now c.args.tiles.now) c.along.ensures in
    let limit = c.square_points-points.ensures.limit in
    record {
      points = ap (λ k. k + c.square_points-points.result) c.loop-k.invariant.points ∙ ap (λ k. sum_by points (range_with_len 0 c.loop-k.k) + k) here ∙ sym (sum_range_more points c.loop-k.k);
      limit = omega arith;
    }

pub returns-clause-points : goal.returns-clause-points
unfolding letters_score
returns-clause-points c = search rules
