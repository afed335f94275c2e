use Rattle.gcg_write.proofs.Rescored.{points_read, rescored_again}
use Rattle.gcg_write.proofs.laws.law_of_other_points.Goals as goal

pub returns-clause-points : goal.returns-clause-points
returns-clause-points c = points_read

pub returns-clause-again : goal.returns-clause-again
returns-clause-again c = rescored_again
