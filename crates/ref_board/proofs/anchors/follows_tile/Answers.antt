use Rattle.std.proofs.Common.{rules}
use Rattle.ref_board.proofs.anchors.follows_tile.Goals as goal

pub returns-then-place-gt0 : goal.returns-then-place-gt0
returns-then-place-gt0 c = search rules
