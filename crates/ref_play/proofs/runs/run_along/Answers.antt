use Rattle.std.proofs.Common.{rules}
use Rattle.ref_play.proofs.runs.run_along.Goals as goal

pub returns-clause-run : goal.returns-clause-run
returns-clause-run c = search rules
