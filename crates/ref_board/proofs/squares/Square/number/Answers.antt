use Rattle.std.proofs.Common.{rules}
use Rattle.ref_board.proofs.squares.Square.number.Goals as goal

pub returns-clause-number : goal.returns-clause-number
returns-clause-number c = search rules
