use Rattle.repair_single.proofs.RackStops.{none_after_racks}
use Rattle.repair_single.proofs.laws.law_of_rack_stops.Goals as goal

pub returns : goal.returns
returns c = none_after_racks c.law_of_fronts.ensures.decide
