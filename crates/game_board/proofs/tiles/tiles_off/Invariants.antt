use Rattle.std.proofs.Common.{◌≡◌, ◌≤◌, ◌*◌}
use Rattle.game_board.specs.Tiles.{all_off}
use Rattle.game_board.proofs.tiles.tiles_off.Given as goal

abbrev pub invariant-loop-number : goal.invariant-loop-number
invariant-loop-number l = record { total : l.total ≡ all_off l.rules l.board l.number; small : l.total ≤ 255 * l.number }
