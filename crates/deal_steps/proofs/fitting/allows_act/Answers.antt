use Rattle.std.proofs.Common.{rules}
use Rattle.deal_steps.proofs.fitting.allows_act.Goals as goal

pub returns-then-eq : goal.returns-then-eq
returns-then-eq c = search rules
