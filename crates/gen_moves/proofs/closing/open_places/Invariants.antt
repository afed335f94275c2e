use Rattle.std.proofs.Common.{◌≡◌, ◌<◌, ℕ, false, length}
use Rattle.gen_line.specs.Cells.{cell_at}
use Rattle.gen_moves.specs.Closing.{IsClosed, open_in}
use Rattle.gen_moves.proofs.closing.open_places.Given as goal

abbrev pub invariant-loop-place : goal.invariant-loop-place
invariant-loop-place l = record {
  size : length l.opens ≡ 15;
  passed : (i : ℕ) → i < l.place → open_in l.opens i ≡ false → IsClosed l.rack (cell_at l.cells i);
}
