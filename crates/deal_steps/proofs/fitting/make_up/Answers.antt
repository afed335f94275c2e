use Rattle.std.proofs.Common.{rules}
use Rattle.deal_steps.proofs.fitting.make_up.Goals as goal

pub returns-then-second-whole : goal.returns-then-second-whole
returns-then-second-whole c = search rules
