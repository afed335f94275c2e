use Rattle.game_board.specs.Texts.{columns_line, rows_text, marks_lines}
use Rattle.game_board.proofs.Lines.{three}
use Rattle.game_board.proofs.texts.push_squares.Goals as goal

pub returns : goal.returns
returns c =
    three c.args.text.now.items columns_line (rows_text c.args.rules.now c.args.board.now 15) marks_lines c.push_columns.new.text.items c.push_rows.new.text.items c.push_marks.new.text.items
    c.in_ok-push_columns.ensures c.in_ok-push_rows.ensures c.in_ok-push_marks.ensures
