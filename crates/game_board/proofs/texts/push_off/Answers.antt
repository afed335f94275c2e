use Rattle.game_board.specs.Texts.{count_line, kinds_line}
use Rattle.game_board.proofs.Lines.{four}
use Rattle.game_board.proofs.texts.push_off.Goals as goal

pub returns : goal.returns
returns c =
    let rules = c.args.rules.now in
    let board = c.args.board.now in
    four c.args.text.now.items (count_line rules board) (kinds_line rules board 0) (kinds_line rules board 9) (kinds_line rules board 18) c.push_count.new.text.items c.push_kinds.new.text.items c.push_kinds-2.new.text.items c.push_kinds-3.new.text.items
    c.in_ok-push_count.ensures c.in_ok-push_kinds.ensures c.in_ok-push_kinds-2.ensures c.in_ok-push_kinds-3.ensures
