use Rattle.engine.specs.Boards.{place_asked, IsShownAt}
use Rattle.engine_stages.specs.Reading.{ReadsNoMore}
use Rattle.engine_stages.proofs.Stages.{records, text_bad, text_last}
use Rattle.engine.proofs.boards.decide_board.Goals as goal

pub returns-in-Err : goal.returns-in-Err
returns-in-Err g c =
    let read = c.in_ok-record in
    let arm = c.in-Err in
    text_bad records _ _ _ (λ r. ReadsNoMore (IsShownAt c.args.rules.now r (place_asked r.events c.args.before))) read.field-0 arm.decision read.ensures arm.is tt

pub returns : goal.returns
returns g c =
    let read = c.in_ok-record in
    let arm = c.in-Ok in
    text_last records _ _ (λ r. IsShownAt c.args.rules.now r (place_asked r.events c.args.before)) read.field-0 arm.record c.in_ok-report_board.field-0 read.ensures arm.is c.in_ok-report_board.ensures
