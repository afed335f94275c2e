use Rattle.archive_answers.proofs.Running.{if_lost}
use Rattle.archive_answers.proofs.runs.RunLines.add.Goals as goal

pub returns-in-Err : goal.returns-in-Err
returns-in-Err c =
    if_lost c.report-in-Err.result c.args.asked.now c.args.game.now c.lost_game-lost.result c.args.self.now c.report.new.self c.report-in-Err.new.self c.lost_game-lost.ensures c.in-Err.ensures.form
    c.in-Err.ensures.ends c.report-in-Err.ensures.reported
