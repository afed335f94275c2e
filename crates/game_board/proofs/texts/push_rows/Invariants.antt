use Rattle.std.proofs.Common.{◌≡◌, ◌++◌}
use Rattle.game_board.specs.Texts.{rows_text}
use Rattle.game_board.proofs.texts.push_rows.Given as goal

abbrev pub invariant-loop-row : goal.invariant-loop-row
invariant-loop-row l = l.text.items ≡ l.initial.text.items ++ rows_text l.rules l.board l.row
