use Rattle.repair_single.proofs.Commonest.{commonest_are_tried, commonest_are_answered}
use Rattle.repair_single.proofs.laws.law_of_commonest.Goals as goal

pub returns : goal.returns
returns c = record { tried = commonest_are_tried; answered = commonest_are_answered }
