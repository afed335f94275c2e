use Rattle.std.proofs.Common.{◌≡◌, take}
use Rattle.game_deal.specs.Recorded.{on_board}
use Rattle.game_deal.proofs.recording.on_board.Given as goal

abbrev pub invariant-loop-cell : goal.invariant-loop-cell
invariant-loop-cell l = l.tiles ≡ on_board (take l.cell-index l.cell-items)
