use Rattle.std.proofs.Common.{subst}
use Rattle.engine_stages.specs.Stages.{IsRecordOf}
use Rattle.game_answers.proofs.boards.board_from.Goals as goal

pub returns : goal.returns
returns c = (c.in-Ok.record, subst (IsRecordOf c.args.text.now) c.in-Ok.is c.in_ok-record.ensures, c.in_ok-shown.ensures)
