use Rattle.std.proofs.Common.{rules}
use Rattle.deal_completion.specs.Completion.{start}
use Rattle.deal_completion.proofs.DealLaws.{first_room, second_room}
use Rattle.deal_completion.proofs.dealing.start.Goals as goal

pub returns : goal.returns
unfolding start
returns c = search (first_room, second_room, rules)
