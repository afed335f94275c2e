use Rattle.engine.proofs.Headlines.{legal_is}
use Rattle.engine.proofs.laws.law_of_legal.Goals as goal

pub returns : goal.returns
returns c = legal_is c.law_of_lexicons.ensures
