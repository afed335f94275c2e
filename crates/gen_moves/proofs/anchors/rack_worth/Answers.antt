use Rattle.std.proofs.Common.{◌≡◌, ◌<◌, ◌+◌, ◌-◌, ◌*◌, ℕ, get_or, sym, ap, ◌∙◌, arith}
use Rattle.gen_moves.specs.Bounds.{rack_points, rack_ones}
use Rattle.gen_moves.proofs.Worths.{rack_none, rack_more, rack_all, ones_none, ones_more, ones_all}
use Rattle.gen_moves.proofs.anchors.rack_worth.Goals as goal

pub loop-kind-init : goal.loop-kind-init
loop-kind-init c =
    record {
      points = sym (rack_none c.args.rules.now c.args.rack.now);
      ones = sym (ones_none c.args.rules.now c.args.rack.now);
      few_points = omega arith;
      few_ones = omega arith;
    }

pub loop-kind-preserved : goal.loop-kind-preserved
loop-kind-preserved c =
    let few : c.loop-kind.kind < 26 = omega arith in
    record {
      points = ap (λ (m : ℕ). c.loop-kind.points + m) c.points_of_tiles-points.ensures.points
          ∙ ap (λ (p : ℕ). c.loop-kind.points + get_or c.args.rack.now c.loop-kind.kind 0 * p) c.above_one.ensures
          ∙ ap (λ (m : ℕ). m + get_or c.args.rack.now c.loop-kind.kind 0 * (get_or c.args.rules.now.points c.loop-kind.kind 0 - 1)) c.loop-kind.invariant.points ∙ sym (rack_more c.args.rules.now c.args.rack.now c.loop-kind.kind few);
      ones = ap (λ (m : ℕ). c.loop-kind.ones + m) c.points_of_tiles-ones.ensures.points
          ∙ ap (λ (p : ℕ). c.loop-kind.ones + get_or c.args.rack.now c.loop-kind.kind 0 * p) c.one_for.ensures
          ∙ ap (λ (m : ℕ). m + get_or c.args.rack.now c.loop-kind.kind 0 * (get_or c.args.rules.now.points c.loop-kind.kind 0 - (get_or c.args.rules.now.points c.loop-kind.kind 0 - 1))) c.loop-kind.invariant.ones ∙ sym (ones_more c.args.rules.now c.args.rack.now c.loop-kind.kind few);
      few_points = omega (arith, c.points_of_tiles-points.ensures.limit, c.loop-kind.invariant.few_points);
      few_ones = omega (arith, c.points_of_tiles-ones.ensures.limit, c.loop-kind.invariant.few_ones);
    }

pub returns-clause-points : goal.returns-clause-points
returns-clause-points c =
    let last : c.loop-kind.kind ≡ 26 = omega arith in
    c.loop-kind.invariant.points ∙ ap (rack_points c.args.rules.now c.args.rack.now) last ∙ rack_all c.args.rules.now c.args.rack.now

pub returns-clause-ones : goal.returns-clause-ones
returns-clause-ones c =
    let last : c.loop-kind.kind ≡ 26 = omega arith in
    c.loop-kind.invariant.ones ∙ ap (rack_ones c.args.rules.now c.args.rack.now) last ∙ ones_all c.args.rules.now c.args.rack.now
