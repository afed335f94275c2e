use Rattle.std.proofs.Common.{rules}
use Rattle.ref_play.proofs.scoring.bonus_score.Goals as goal

pub returns-then-tiles-eq-RACK-clause-score : goal.returns-then-tiles-eq-RACK-clause-score
returns-then-tiles-eq-RACK-clause-score c = search rules
