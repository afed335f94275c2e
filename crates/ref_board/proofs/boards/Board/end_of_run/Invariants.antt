use Rattle.std.proofs.Common.{◌≡◌, ℕ, ◌-◌, ◌<◌, ◌≤◌, true}
use Rattle.ref_board.specs.Cells.{occupied_on}
use Rattle.ref_board.proofs.boards.Board.end_of_run.Given as goal

abbrev pub invariant-loop-end : goal.invariant-loop-end
invariant-loop-end l =
    record {
      following : l.place < l.end;
      inside : l.end ≤ 15;
      filled : (k : ℕ) → l.place < k → k < l.end → occupied_on l.dir l.self l.line k ≡ true;
    }

abbrev pub decreases-loop-end : goal.decreases-loop-end
decreases-loop-end l = 15 - l.end
