use Rattle.game_board.specs.Texts.{cells_text}
use Rattle.game_board.proofs.Lines.{cells_none, cells_more, none_yet, longer}
use Rattle.game_board.proofs.texts.push_row.Goals as goal

pub loop-column-init : goal.loop-column-init
loop-column-init c =
    none_yet c.push_row_name.new.text.items (cells_text c.args.rules.now c.args.board.now c.args.row 0) (cells_none c.args.rules.now c.args.board.now c.args.row)

pub loop-column-preserved : goal.loop-column-preserved
loop-column-preserved c =
    longer _ _ _ _ _ _ (cells_more c.args.rules.now c.args.board.now c.args.row c.loop-column.column) c.loop-column.invariant c.in_ok-push_cell.ensures
