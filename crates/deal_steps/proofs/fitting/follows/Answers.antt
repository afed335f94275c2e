use Rattle.std.proofs.Common.{rules}
use Rattle.deal_steps.proofs.fitting.follows.Goals as goal

pub returns-then-acts_to : goal.returns-then-acts_to
returns-then-acts_to c = search rules
