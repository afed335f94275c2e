use Rattle.repair_plays.proofs.Legal.{legal_at}
use Rattle.repair_plays.proofs.writing.asked_of.Goals as goal

pub notation-requires : goal.notation-requires
notation-requires c = legal_at c.args.board.now c.args.plays.now c.loop-scored.scored-index c.scored-item.result c.requires c.loop-scored-test.true c.scored-item.is
