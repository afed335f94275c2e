use Rattle.std.proofs.Common.{rules}
use Rattle.deal_steps.proofs.deals.Racks.of.Goals as goal

pub returns-in-First : goal.returns-in-First
returns-in-First c = search rules
