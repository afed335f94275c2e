use Rattle.std.proofs.Common.{rules}
use Rattle.ref_board.proofs.anchors.precedes_tile.Goals as goal

pub returns-then-place-lt-SIDE : goal.returns-then-place-lt-SIDE
returns-then-place-lt-SIDE c = search rules
