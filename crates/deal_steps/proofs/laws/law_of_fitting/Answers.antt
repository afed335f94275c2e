use Rattle.deal_steps.proofs.FitBounds.{no_bound_where_racks_fit}
use Rattle.deal_steps.proofs.laws.law_of_fitting.Goals as goal

pub returns : goal.returns
returns c = no_bound_where_racks_fit
