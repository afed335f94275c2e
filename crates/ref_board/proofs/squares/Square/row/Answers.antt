use Rattle.std.proofs.Common.{rules}
use Rattle.ref_board.proofs.squares.Square.row.Goals as goal

pub returns-clause-row : goal.returns-clause-row
returns-clause-row c = search rules
