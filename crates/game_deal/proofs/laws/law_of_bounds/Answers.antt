use Rattle.game_deal.specs.Recorded.{steps_of}
use Rattle.game_deal.proofs.RecordRuns.{allowed_runs}
use Rattle.game_deal.proofs.laws.law_of_bounds.Goals as goal

pub returns : goal.returns
returns c = λ rules list events deal allowed fit. c.law_of_fitting.ensures rules (steps_of rules events) deal (allowed_runs rules list events allowed) fit
