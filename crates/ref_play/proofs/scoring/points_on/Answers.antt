use Rattle.std.proofs.Common.{rules}
use Rattle.ref_play.proofs.scoring.points_on.Goals as goal

pub returns-in-Some-clause-points : goal.returns-in-Some-clause-points
returns-in-Some-clause-points c = search rules
