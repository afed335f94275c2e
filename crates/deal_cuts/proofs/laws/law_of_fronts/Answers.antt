use Rattle.deal_cuts.proofs.Fronts.{fronts_fit, fronts_decide}
use Rattle.deal_cuts.proofs.laws.law_of_fronts.Goals as goal

pub returns-clause-fit : goal.returns-clause-fit
returns-clause-fit c = fronts_fit

pub returns-clause-decide : goal.returns-clause-decide
returns-clause-decide c = fronts_decide
