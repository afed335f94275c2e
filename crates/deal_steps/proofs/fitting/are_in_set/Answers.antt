use Rattle.std.proofs.Common.{rules}
use Rattle.deal_steps.proofs.fitting.are_in_set.Goals as goal

pub loop-kind-preserved : goal.loop-kind-preserved
loop-kind-preserved c = search rules
