use Rattle.std.proofs.Common.{subst}
use Rattle.game_deal.specs.Racks.{AreFound}
use Rattle.game_deal.proofs.Outcomes.{none_by}
use Rattle.repair_answers.proofs.no_change.is_dealt.Goals as goal

pub returns-in-NoDeal : goal.returns-in-NoDeal
returns-in-NoDeal c =
    none_by c.law_of_fronts.ensures.decide c.args.passed.now c.in-NoDeal.line c.in-NoDeal.earlier (subst (AreFound c.args.passed.now) c.in-NoDeal.is c.in_ok-settle_racks.ensures).1
