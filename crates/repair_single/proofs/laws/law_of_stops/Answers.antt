use Rattle.repair_single.proofs.Stops.{none_after_stop}
use Rattle.repair_single.proofs.laws.law_of_stops.Goals as goal

pub returns : goal.returns
returns c = none_after_stop
