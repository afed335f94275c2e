use Rattle.std.proofs.Common.{rules}
use Rattle.ref_board.proofs.squares.Square.new.Goals as goal

pub returns-then-column-lt-SIDE-clause-number : goal.returns-then-column-lt-SIDE-clause-number
returns-then-column-lt-SIDE-clause-number c = search rules
