use Rattle.std.proofs.Common.{◌≡◌, ◌<◌, length, ℕ, List}
use Rattle.ref_board.specs.Lines.{square_at}
use Rattle.gen_cross.specs.Values.{HasMasks}
use Rattle.gen_line.specs.Cells.{cell_at}
use Rattle.gen_moves.specs.BoardLines.{IsCellOf}
use Rattle.gen_moves.proofs.lines.line_cells.Given as goal

-- each place passed has its cell
abbrev pub invariant-loop-place : goal.invariant-loop-place
invariant-loop-place l = record {
  size : length l.cells ≡ 15;
  passed : (words : List (List ℕ)) → HasMasks words l.board l.cross → (k : ℕ) → k < l.place → IsCellOf words l.dir l.board (square_at l.dir l.line k) (cell_at l.cells k);
}
