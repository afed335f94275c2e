use Rattle.repair_slips.proofs.LaidTexts.{laid_lies}
use Rattle.repair_slips.proofs.laws.law_of_layings.Goals as goal

pub returns : goal.returns
returns c = laid_lies
