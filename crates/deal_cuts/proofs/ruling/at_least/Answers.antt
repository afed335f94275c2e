use Rattle.std.proofs.Common.{ℕ, sym, subst}
use Rattle.deal_cuts.specs.Cutting.{AreInside}
use Rattle.deal_cuts.proofs.Counting.{least_is, least_inside}
use Rattle.deal_cuts.proofs.ruling.at_least.Goals as goal

pub returns-clause-is : goal.returns-clause-is
returns-clause-is c small =
    least_is c.args.chosen.now c.args.places.now c.args.rules.now c.args.step.now _ _ _ _ _ _ c.split_by-all.ensures.within c.split_by-laid.ensures.within
    c.where_so.ensures.is c.where_so-2.ensures.is c.where_so-3.ensures.is c.saturating_sub.ensures c.saturating_sub-2.ensures

pub returns-clause-inside : goal.returns-clause-inside
returns-clause-inside c =
    let is = least_is c.args.chosen.now c.args.places.now c.args.rules.now c.args.step.now _ _ _ _ _ _ c.split_by-all.ensures.within c.split_by-laid.ensures.within
    c.where_so.ensures.is c.where_so-2.ensures.is c.where_so-3.ensures.is c.saturating_sub.ensures c.saturating_sub-2.ensures in
    subst (λ (n : ℕ). AreInside c.args.chosen.now c.args.places.now c.args.rules.now c.args.step.now n) (sym is)
    (least_inside c.args.chosen.now c.args.places.now c.args.rules.now c.args.step.now c.split_by-all.ensures.kinds c.split_by-laid.ensures.kinds)
