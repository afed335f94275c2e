use Rattle.std.proofs.Common.{subst}
use Rattle.engine_stages.specs.Stages.{IsRecordOf}
use Rattle.game_answers.proofs.games.judged_from.Goals as goal

pub returns-clause-judged : goal.returns-clause-judged
returns-clause-judged c = (c.in-Ok.record, subst (IsRecordOf c.args.text.now) c.in-Ok.is c.in_ok-record.ensures, c.in_ok-judged.ensures.judged)
