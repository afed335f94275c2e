use Rattle.std.proofs.Common.{rules}
use Rattle.deal_steps.proofs.fitting.follows_to.Goals as goal

pub returns-in-None : goal.returns-in-None
returns-in-None c = search rules
