use Rattle.std.proofs.Common.{ℕ, sym, subst}
use Rattle.deal_cuts.specs.Cutting.{Carries}
use Rattle.deal_cuts.proofs.Carrying.{carried_is, carries_on}
use Rattle.deal_cuts.proofs.ruling.carried.Goals as goal

pub returns-clause-is : goal.returns-clause-is
returns-clause-is c small small2 follows =
    carried_is c.args.chosen.now c.args.step.now c.args.next.now c.args.from.now c.args.to.now c.args.inside c.flow_of-first.result c.flow_of-second.result _ _ _ _ _ _ _
    c.flow_of-first.ensures.is c.flow_of-second.ensures.is c.gained_by.ensures.is c.gained_by-2.ensures.is c.lost_by.ensures.is c.lost_by-2.ensures.is
    c.saturating_sub-rest.ensures c.where_out.ensures.is c.saturating_sub.ensures c.min.ensures

pub returns-clause-carries : goal.returns-clause-carries
returns-clause-carries c =
    let is = carried_is c.args.chosen.now c.args.step.now c.args.next.now c.args.from.now c.args.to.now c.args.inside c.flow_of-first.result c.flow_of-second.result _ _ _ _ _ _ _
    c.flow_of-first.ensures.is c.flow_of-second.ensures.is c.gained_by.ensures.is c.gained_by-2.ensures.is c.lost_by.ensures.is c.lost_by-2.ensures.is
    c.saturating_sub-rest.ensures c.where_out.ensures.is c.saturating_sub.ensures c.min.ensures in
    subst (λ (n : ℕ). Carries c.args.chosen.now c.args.step.now c.args.next.now c.args.from.now c.args.to.now c.args.inside n) (sym is)
    (carries_on c.args.chosen.now c.args.step.now c.args.next.now c.args.from.now c.args.to.now c.args.inside c.law_of_numbers.ensures.kinds (c.board_follows.ensures.0 c.if-not-board_follows.false))
