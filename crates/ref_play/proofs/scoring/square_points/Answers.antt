use Rattle.std.proofs.Common.{rules}
use Rattle.ref_play.proofs.scoring.square_points.Goals as goal

pub returns-clause-points : goal.returns-clause-points
returns-clause-points c = search rules
