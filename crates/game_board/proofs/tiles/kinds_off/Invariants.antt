use Rattle.std.proofs.Common.{◌≡◌}
use Rattle.game_board.specs.Tiles.{kinds_off}
use Rattle.game_board.proofs.tiles.kinds_off.Given as goal

abbrev pub invariant-loop-number : goal.invariant-loop-number
invariant-loop-number l = l.off.items ≡ kinds_off l.rules l.board l.number
