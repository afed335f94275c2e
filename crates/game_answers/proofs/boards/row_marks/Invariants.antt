use Rattle.std.proofs.Common.{◌≡◌, length}
use Rattle.game_answers.specs.Boards.{row_marks}
use Rattle.game_answers.proofs.boards.row_marks.Given as goal

abbrev pub invariant-loop-column : goal.invariant-loop-column
invariant-loop-column l =
    record {
      marks : l.marks.items ≡ row_marks l.rules l.board l.row l.column;
      len : length l.marks.items ≡ l.column;
    }
