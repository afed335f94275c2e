use Rattle.std.proofs.Common.{rules}
use Rattle.gcg_read.proofs.points.Points.value.Goals as goal

pub returns-clause-value : goal.returns-clause-value
returns-clause-value c = search rules
