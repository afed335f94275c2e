use Rattle.engine.proofs.Headlines.{illegal_is}
use Rattle.engine.proofs.laws.law_of_illegal.Goals as goal

pub returns : goal.returns
returns c = illegal_is
