use Rattle.std.proofs.Common.{rules}
use Rattle.deal_steps.proofs.known.Known.show.Goals as goal

pub returns-in-Ends : goal.returns-in-Ends
returns-in-Ends c = search rules
