use Rattle.engine.proofs.Headlines.{plain_is}
use Rattle.engine.proofs.laws.law_of_plain_games.Goals as goal

pub returns : goal.returns
returns c = plain_is
