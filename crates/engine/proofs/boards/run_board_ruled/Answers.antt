use Rattle.std.proofs.Common.{refl}
use Rattle.engine.specs.Boards.{IsBoarded}
use Rattle.engine_stages.specs.Reading.{ByParts}
use Rattle.engine_stages.proofs.Runs.{runs, runs_unread}
use Rattle.engine.proofs.ShownBoards.{board_spares}
use Rattle.engine_stages.proofs.Stages.{rules_texts, text_bad, rules_good}
use Rattle.engine.proofs.boards.run_board_ruled.Goals as goal

pub returns-in-Ok-Err : goal.returns-in-Ok-Err
returns-in-Ok-Err g c =
    let arm = c.in-Ok-Err in
    runs (text_bad rules_texts _ _ _ (ByParts (λ rules. IsBoarded rules _)) arm.field-0 arm.decision arm.ensures arm.field-0-is (refl, tt)) c.finish.ensures

pub returns-in-Err : goal.returns-in-Err
returns-in-Err g c = runs_unread c.in-Err.ensures (refl, tt)

pub returns : goal.returns
returns g c =
    let arm = c.in-Ok-Ok in
    runs
    (rules_good _ _ _ (λ rules. IsBoarded rules _) arm.field-0 arm.rules c.decide_board-decided.result arm.ensures arm.field-0-is c.decide_board-decided.ensures
    (board_spares arm.rules _))
    c.finish-2.ensures
