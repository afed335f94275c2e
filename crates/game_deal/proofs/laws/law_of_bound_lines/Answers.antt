use Rattle.game_deal.proofs.BoundLines.{exceeding_up_to}
use Rattle.game_deal.proofs.laws.law_of_bound_lines.Goals as goal

pub returns : goal.returns
returns c = exceeding_up_to c.law_of_fitting.ensures
