use Rattle.deal_steps.proofs.KnownLaws.{known_of_nothing}
use Rattle.deal_steps.proofs.known.Known.new.Goals as goal

pub returns : goal.returns
returns c = known_of_nothing c.new.result c.new-2.result c.new-3.result c.new.ensures c.new-2.ensures c.new-3.ensures
