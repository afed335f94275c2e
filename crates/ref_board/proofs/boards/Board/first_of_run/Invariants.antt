use Rattle.std.proofs.Common.{◌≡◌, ℕ, ◌<◌, ◌≤◌, true}
use Rattle.ref_board.specs.Cells.{occupied_on}
use Rattle.ref_board.proofs.boards.Board.first_of_run.Given as goal

abbrev pub invariant-loop-first : goal.invariant-loop-first
invariant-loop-first l =
    record {
      not_after : l.first ≤ l.place;
      filled : (k : ℕ) → l.first ≤ k → k < l.place → occupied_on l.dir l.self l.line k ≡ true;
    }

abbrev pub decreases-loop-first : goal.decreases-loop-first
decreases-loop-first l = l.first
