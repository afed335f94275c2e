use Rattle.game_board.specs.Texts.{rows_text}
use Rattle.game_board.proofs.Lines.{rows_none, rows_more, none_yet, longer}
use Rattle.game_board.proofs.texts.push_rows.Goals as goal

pub loop-row-init : goal.loop-row-init
loop-row-init c = none_yet c.args.text.now.items (rows_text c.args.rules.now c.args.board.now 0) (rows_none c.args.rules.now c.args.board.now)

pub loop-row-preserved : goal.loop-row-preserved
loop-row-preserved c =
    longer _ _ _ _ _ _ (rows_more c.args.rules.now c.args.board.now c.loop-row.row) c.loop-row.invariant c.in_ok-push_row.ensures
