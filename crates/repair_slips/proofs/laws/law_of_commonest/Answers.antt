use Rattle.repair_slips.proofs.Tried.{commonest_are_tried}
use Rattle.repair_slips.proofs.laws.law_of_commonest.Goals as goal

pub returns : goal.returns
returns c = commonest_are_tried
