use Rattle.repair_plays.proofs.Legal.{plays_legal}
use Rattle.repair_plays.proofs.writing.plays_asked_for.Goals as goal

pub asked_of-requires : goal.asked_of-requires
asked_of-requires c = plays_legal c.args.board.now c.items.result.now _ c.items.ensures c.in_ok-all.ensures
