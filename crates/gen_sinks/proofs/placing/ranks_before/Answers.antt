use Rattle.std.proofs.Common.{rules}
use Rattle.gen_sinks.proofs.placing.ranks_before.Goals as goal

pub returns-then-score-points : goal.returns-then-score-points
returns-then-score-points c = search rules

pub returns-then-score-points-2 : goal.returns-then-score-points-2
returns-then-score-points-2 c = search rules

pub returns-else-score-points-2 : goal.returns-else-score-points-2
returns-else-score-points-2 c = search rules
