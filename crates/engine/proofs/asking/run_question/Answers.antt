use Rattle.engine_stages.proofs.Runs.{runs}
use Rattle.engine.proofs.asking.run_question.Goals as goal

pub returns : goal.returns
returns g c = runs c.ask-decided.ensures c.finish.ensures
