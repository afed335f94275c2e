use Rattle.std.proofs.Common.{rules}
use Rattle.deal_search.proofs.Fronts.{ends_in_front, deals_in_front}
use Rattle.deal_search.proofs.settling.Fronts.look.Goals as goal

pub returns-clause-earlier : goal.returns-clause-earlier
returns-clause-earlier c = search (rules, ends_in_front, deals_in_front)
