use Rattle.std.proofs.Common.{◌≡◌, drop}
use Rattle.repair_slips.specs.Rests.{off_board}
use Rattle.repair_slips.proofs.rests.off_board.Given as goal

abbrev pub invariant-loop-cell : goal.invariant-loop-cell
invariant-loop-cell l = off_board l.rest (drop l.cell-index l.cells) ≡ off_board l.counts l.cells
