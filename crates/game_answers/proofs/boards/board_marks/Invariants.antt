use Rattle.std.proofs.Common.{◌≡◌}
use Rattle.ref_play.specs.Words.{items_of}
use Rattle.game_answers.specs.Boards.{board_marks}
use Rattle.game_answers.proofs.boards.board_marks.Given as goal

abbrev pub invariant-loop-row : goal.invariant-loop-row
invariant-loop-row l = items_of l.rows.items ≡ board_marks l.rules l.board l.row
