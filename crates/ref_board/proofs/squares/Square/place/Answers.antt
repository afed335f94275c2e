use Rattle.std.proofs.Common.{rules}
use Rattle.ref_board.proofs.squares.Square.place.Goals as goal

pub returns-in-Down-clause-place : goal.returns-in-Down-clause-place
returns-in-Down-clause-place c = search rules
