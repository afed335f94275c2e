use Rattle.gcg_read.specs.Records.{most_bytes}
use Rattle.engine_stages.proofs.Readings.{taken}
use Rattle.game_answers.specs.Boards.{IsBoardOf}
use Rattle.game_answers.proofs.boards.shown_board.Goals as goal

pub returns : goal.returns
returns g c =
    taken most_bytes (g.G.Input.device c.args.game.now) (g.G.Input.device c.read_text.new.input) (IsBoardOf c.args.rules.now c.args.before) c.in_ok-text.text.items
    c.deref.result.now c.in_ok-board_from.field-0 c.in_ok-text.ensures.whole c.deref.ensures.value c.in_ok-board_from.ensures c.in_ok-text.ensures.worked c.in_ok-text.ensures.taken
