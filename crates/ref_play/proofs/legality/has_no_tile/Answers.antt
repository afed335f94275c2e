use Rattle.ref_play.proofs.Placing.{empty_is}
use Rattle.ref_play.proofs.legality.has_no_tile.Goals as goal

pub returns : goal.returns
returns c = empty_is c.args.board.now _ c.is_empty.ensures
