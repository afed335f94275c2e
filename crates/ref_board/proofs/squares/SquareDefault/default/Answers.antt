use Rattle.std.proofs.Common.{rules}
use Rattle.ref_board.proofs.squares.SquareDefault.default.Goals as goal

pub returns : goal.returns
returns c = search rules
