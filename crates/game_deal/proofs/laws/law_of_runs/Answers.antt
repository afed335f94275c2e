use Rattle.game_deal.proofs.RecordRuns.{allowed_runs}
use Rattle.game_deal.proofs.laws.law_of_runs.Goals as goal

pub returns : goal.returns
returns c = allowed_runs
