use Rattle.std.proofs.Common.{rules}
use Rattle.ref_board.proofs.squares.Square.line.Goals as goal

pub returns-in-Across-clause-line : goal.returns-in-Across-clause-line
returns-in-Across-clause-line c = search rules
