use Rattle.std.proofs.Common.{rules}
use Rattle.deal_completion.specs.Completion.{exchange}
use Rattle.deal_completion.proofs.DealLaws.{off_room, bag_room}
use Rattle.deal_completion.proofs.drawing.exchange.Goals as goal

pub returns : goal.returns
unfolding exchange
returns c = search (off_room, bag_room, rules)
