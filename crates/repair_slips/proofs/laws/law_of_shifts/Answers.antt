use Rattle.repair_slips.proofs.Shifts.{shifts_are_by_one}
use Rattle.repair_slips.proofs.laws.law_of_shifts.Goals as goal

pub returns : goal.returns
returns c = shifts_are_by_one
