use Rattle.std.proofs.Common.{◌++◌, ◌∙◌, ap}
use Rattle.std.specs.Prelude.{slice_get}
use Rattle.game_board.specs.Texts.{place_text, end_text, squares_text, players_text, off_text, board_text}
use Rattle.game_board.proofs.Lines.{five}
use Rattle.game_board.proofs.texts.board_text.Goals as goal

pub returns : goal.returns
unfolding board_text
returns c =
    let rules = c.args.rules.now in
    let r = c.args.game.now in
    let end = c.args.laying.now.end in
    let why = c.args.laying.now.fault in
    let place = place_text (slice_get r.events end) in
    five c.new-text.result.items place (end_text why) (squares_text rules c.args.laying.now.board) (players_text r end) (off_text rules c.args.laying.now.board) c.push_place.new.text.items
    c.push_end.new.text.items c.push_squares.new.text.items c.push_players.new.text.items c.push_off.new.text.items
    (c.in_ok-push_place.ensures ∙ ap (λ o. c.new-text.result.items ++ place_text o) c.event_at.ensures) c.in_ok-push_end.ensures c.in_ok-push_squares.ensures c.in_ok-push_players.ensures c.in_ok-push_off.ensures
    ∙ ap (λ t. t ++ (((place ++ end_text why) ++ squares_text rules c.args.laying.now.board) ++ players_text r end ++ off_text rules c.args.laying.now.board)) c.new-text.ensures.items
    ∙ ap (λ b. ((place ++ end_text why) ++ squares_text rules b) ++ players_text r end ++ off_text rules b) c.requires.board
