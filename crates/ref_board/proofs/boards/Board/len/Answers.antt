use Rattle.std.proofs.Common.{rules}
use Rattle.ref_board.proofs.boards.Board.len.Goals as goal

pub returns-clause-len : goal.returns-clause-len
returns-clause-len c = search rules
