use Rattle.std.proofs.Common.{rules}
use Rattle.deal_steps.proofs.known.Known.raise.Goals as goal

pub returns : goal.returns
returns c = search rules
