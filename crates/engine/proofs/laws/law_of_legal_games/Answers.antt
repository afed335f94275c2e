use Rattle.engine.proofs.StayingLegal.{legal_stays_legal}
use Rattle.engine.proofs.laws.law_of_legal_games.Goals as goal

pub returns : goal.returns
returns c = legal_stays_legal c.law_of_fronts.ensures.decide
