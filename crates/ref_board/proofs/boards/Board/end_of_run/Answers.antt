use Rattle.std.proofs.Common.{rules}
use Rattle.ref_board.proofs.boards.Board.end_of_run.Goals as goal

pub loop-end-init : goal.loop-end-init
loop-end-init c = search rules
