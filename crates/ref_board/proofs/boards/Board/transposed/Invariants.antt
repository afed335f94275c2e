use Rattle.std.proofs.Common.{◌≡◌, ℕ, ◌<◌, length}
use Rattle.ref_board.specs.Cells.{tile_at, mirrored}
use Rattle.ref_board.proofs.boards.Board.transposed.Given as goal

abbrev pub invariant-loop-number : goal.invariant-loop-number
invariant-loop-number l =
    record {
      size : length l.cells ≡ 225;
      filled : (square : ℕ) → square < l.number → tile_at l.cells square ≡ tile_at l.self (mirrored square);
    }
