use Rattle.std.proofs.Common.{refl, ap}
use Rattle.io_devices.specs.Devices.{Device}
use Rattle.game_answers.specs.Boards.{IsBoardOf}
use Rattle.reply_answers.proofs.Reading.{means_read, memory_alone}
use Rattle.reply_answers.proofs.games.board_in.Goals as goal

pub returns-clause-found : goal.returns-clause-found
returns-clause-found c =
    means_read _ _ c.args.game.now (IsBoardOf c.args.rules.now c.args.line) c.shown_board.result
    c.new-input.ensures c.shown_board.ensures

pub returns-clause-memory : goal.returns-clause-memory
returns-clause-memory c = memory_alone _ _ _ c.shown_board.result (ap (λ (d : Device). d.failures) c.new-input.ensures) refl c.shown_board.ensures
