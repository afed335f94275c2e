use Rattle.ref_play.proofs.RunLaws.{runs_formed-meet, runs_formed-distinct}
use Rattle.ref_play.proofs.laws.law_of_runs.Goals as goal

pub returns-clause-met : goal.returns-clause-met
returns-clause-met c = runs_formed-meet

pub returns-clause-distinct : goal.returns-clause-distinct
returns-clause-distinct c = runs_formed-distinct
