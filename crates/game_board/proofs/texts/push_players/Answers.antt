use Rattle.std.proofs.Common.{◌++◌, ◌∙◌, ap}
use Rattle.gcg_read.specs.declared.events.Seat.TheVariants.{First, Second}
use Rattle.std.specs.Prelude.{slice_get}
use Rattle.game_board.specs.Texts.{player_line, rack_text}
use Rattle.game_board.proofs.Lines.{three}
use Rattle.game_board.proofs.texts.push_players.Goals as goal

pub returns : goal.returns
returns c =
    let r = c.args.game.now in
    let place = c.args.place in
    three c.args.text.now.items (player_line r place First) (player_line r place Second) (rack_text (slice_get r.events place)) c.push_player.new.text.items c.push_player-2.new.text.items c.push_rack.new.text.items
    c.in_ok-push_player.ensures c.in_ok-push_player-2.ensures
    (c.in_ok-push_rack.ensures ∙ ap (λ o. c.push_player-2.new.text.items ++ rack_text o) c.event_at.ensures)
