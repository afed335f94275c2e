use Rattle.std.proofs.Common.{◌≡◌, ℕ, ◌<◌}
use Rattle.std.specs.Prelude.{None}
use Rattle.ref_board.specs.Cells.{tile_at}
use Rattle.ref_board.proofs.boards.has_no_tile.Given as goal

abbrev pub invariant-loop-cell : goal.invariant-loop-cell
invariant-loop-cell l = (square : ℕ) → square < l.cell-index → tile_at l.cells square ≡ None
