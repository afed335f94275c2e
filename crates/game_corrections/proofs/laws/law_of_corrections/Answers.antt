use Rattle.game_corrections.proofs.Fronts.{one_correction}
use Rattle.game_corrections.proofs.laws.law_of_corrections.Goals as goal

pub returns-clause-one : goal.returns-clause-one
returns-clause-one c = one_correction
