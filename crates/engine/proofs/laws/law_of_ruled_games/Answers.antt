use Rattle.engine.proofs.Headlines.{legal_by_text}
use Rattle.engine.proofs.laws.law_of_ruled_games.Goals as goal

pub returns : goal.returns
returns c = legal_by_text c.law_of_lexicons.ensures
