use Rattle.engine.proofs.running.run_ruled.Goals as goal

pub returns : goal.returns
returns g c = c.run_question.ensures
