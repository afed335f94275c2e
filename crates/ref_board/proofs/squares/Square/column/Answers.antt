use Rattle.std.proofs.Common.{rules}
use Rattle.ref_board.proofs.squares.Square.column.Goals as goal

pub returns-clause-column : goal.returns-clause-column
returns-clause-column c = search rules
