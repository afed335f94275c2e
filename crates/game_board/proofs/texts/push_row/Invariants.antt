use Rattle.std.proofs.Common.{◌≡◌, ◌++◌}
use Rattle.game_board.specs.Texts.{cells_text}
use Rattle.game_board.proofs.texts.push_row.Given as goal

abbrev pub invariant-loop-column : goal.invariant-loop-column
invariant-loop-column l = l.text.items ≡ l.initial.text.items ++ cells_text l.rules l.board l.row l.column
