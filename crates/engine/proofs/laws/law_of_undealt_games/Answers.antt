use Rattle.engine.proofs.Headlines.{settled_illegal_is}
use Rattle.engine.proofs.laws.law_of_undealt_games.Goals as goal

pub returns : goal.returns
returns c = settled_illegal_is c.law_of_fronts.ensures.decide
