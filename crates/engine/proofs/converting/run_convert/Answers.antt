use Rattle.engine_stages.proofs.Runs.{runs}
use Rattle.engine.proofs.converting.run_convert.Goals as goal

pub returns : goal.returns
returns g c = runs c.decide_conversion-decided.ensures c.finish.ensures
