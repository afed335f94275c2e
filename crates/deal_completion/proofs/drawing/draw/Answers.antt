use Rattle.std.proofs.Common.{rules}
use Rattle.deal_completion.specs.Completion.{draw}
use Rattle.deal_completion.proofs.DealLaws.{drawn_room}
use Rattle.deal_completion.proofs.drawing.draw.Goals as goal

pub returns : goal.returns
unfolding draw
returns c = search (drawn_room, rules)
