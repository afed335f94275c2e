use Rattle.std.proofs.Common.{rules}
use Rattle.ref_board.proofs.boards.Board.lift.Goals as goal

pub returns-clause-lifted : goal.returns-clause-lifted
returns-clause-lifted c = search rules
