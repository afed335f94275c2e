use Rattle.engine_stages.proofs.Runs.{runs}
use Rattle.engine.proofs.building.run_build.Goals as goal

pub returns : goal.returns
returns g c = runs c.decide_lexicon-decided.ensures c.finish.ensures
