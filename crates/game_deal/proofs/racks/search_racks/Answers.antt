use Rattle.std.proofs.Common.{rules}
use Rattle.game_deal.proofs.FoundRacks.{found_deal}
use Rattle.game_deal.proofs.racks.search_racks.Goals as goal

pub returns : goal.returns
returns c = search (found_deal, rules)
