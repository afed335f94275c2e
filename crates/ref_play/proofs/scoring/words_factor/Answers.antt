use Rattle.std.proofs.Common.{◌+◌, ◌*◌, map, take, ap, sym, ◌∙◌, arith}
use Rattle.std.proofs.lemmas.List.{take_all}
use Rattle.ref_play.specs.Scores.{factor_in, words_factor, product}
use Rattle.ref_play.proofs.ScoreLemmas.{factor_more, factor_limit, factors_limit}
use Rattle.ref_play.proofs.scoring.words_factor.Goals as goal

pub overflow_mul-factor : goal.overflow_mul-factor
overflow_mul-factor c =
    let few = c.requires.few in
    let most = factors_limit (c.loop-placed.placed-index + 1) (omega arith) in
    let step = factor_limit c.loop-placed.placed-index c.loop-placed.factor c.factor_in-factor.result c.loop-placed.invariant.limit c.factor_in-factor.ensures.limit in
    omega arith

pub loop-placed-preserved : goal.loop-placed-preserved
loop-placed-preserved c =
    let f = factor_in c.args.rules.now c.args.run.now in
    record {
      factor =
          ap (λ k. k * c.factor_in-factor.result) c.loop-placed.invariant.factor ∙ ap (λ k. product (map f (take c.loop-placed.placed-index c.args.tiles.now)) * k) c.factor_in-factor.ensures.factor
          ∙ sym (factor_more f c.args.tiles.now c.loop-placed.placed-index c.placed-item.result (omega arith) c.placed-item.is);
      limit = factor_limit c.loop-placed.placed-index c.loop-placed.factor c.factor_in-factor.result c.loop-placed.invariant.limit c.factor_in-factor.ensures.limit;
    }

pub returns-clause-factor : goal.returns-clause-factor
unfolding words_factor
returns-clause-factor c =
    c.loop-placed.invariant.factor ∙ ap (λ qs. product (map (factor_in c.args.rules.now c.args.run.now) qs)) (take_all c.loop-placed.placed-index c.args.tiles.now c.loop-placed-test.false)

pub returns-clause-limit : goal.returns-clause-limit
returns-clause-limit c =
    let few = c.requires.few in
    let most = factors_limit c.loop-placed.placed-index (omega arith) in
    omega arith
