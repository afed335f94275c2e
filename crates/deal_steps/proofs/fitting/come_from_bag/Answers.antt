use Rattle.std.proofs.Common.{rules}
use Rattle.deal_steps.proofs.fitting.come_from_bag.Goals as goal

pub loop-kind-preserved : goal.loop-kind-preserved
loop-kind-preserved c = search rules
