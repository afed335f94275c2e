use Rattle.engine.proofs.Headlines.{legal_run}
use Rattle.engine.proofs.running.run.Goals as goal

pub returns-clause-run : goal.returns-clause-run
returns-clause-run g c = c.run_question.ensures

pub returns-clause-legal : goal.returns-clause-legal
returns-clause-legal g c = legal_run c.law_of_legal.ensures c.args.rules.now _ _ _ _ _ c.run_question.result (returns-clause-run g c)
