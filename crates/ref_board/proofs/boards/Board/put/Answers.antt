use Rattle.std.proofs.Common.{rules}
use Rattle.ref_board.proofs.boards.Board.put.Goals as goal

pub returns : goal.returns
returns c = search rules
