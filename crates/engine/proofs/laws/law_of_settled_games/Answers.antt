use Rattle.engine.proofs.Headlines.{settled_legal_is}
use Rattle.engine.proofs.laws.law_of_settled_games.Goals as goal

pub returns : goal.returns
returns c = settled_legal_is c.law_of_lexicons.ensures
