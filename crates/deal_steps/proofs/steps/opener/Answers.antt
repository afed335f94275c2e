use Rattle.std.proofs.Common.{rules}
use Rattle.deal_steps.proofs.OpenerLaws.{opener_here, opener_later}
use Rattle.deal_steps.proofs.steps.opener.Goals as goal

pub returns-then-step : goal.returns-then-step
returns-then-step c = search (opener_here, opener_later, rules)
