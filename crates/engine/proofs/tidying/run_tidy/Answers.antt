use Rattle.engine_stages.proofs.Runs.{runs}
use Rattle.engine.proofs.tidying.run_tidy.Goals as goal

pub returns : goal.returns
returns g c = runs c.decide_tidy-decided.ensures c.finish.ensures
