use Rattle.std.proofs.Common.{rules}
use Rattle.deal_search.proofs.settling.seek.Goals as goal

pub returns-in-Cut : goal.returns-in-Cut
returns-in-Cut c = search rules

pub returns : goal.returns
returns c = search rules
