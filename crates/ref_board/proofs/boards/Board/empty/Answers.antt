use Rattle.std.proofs.Common.{rules}
use Rattle.ref_board.specs.Cells.{empty_board}
use Rattle.ref_board.proofs.boards.Board.empty.Goals as goal

pub returns : goal.returns
unfolding empty_board
returns c = search rules
