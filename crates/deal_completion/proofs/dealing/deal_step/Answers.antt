use Rattle.std.proofs.Common.{rules}
use Rattle.deal_completion.proofs.dealing.deal_step.Goals as goal

pub returns-clause-met : goal.returns-clause-met
returns-clause-met c = search rules
