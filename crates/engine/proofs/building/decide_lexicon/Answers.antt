use Rattle.engine.specs.Building.{IsBuiltBy}
use Rattle.engine_stages.specs.Reading.{ReadsNoMore}
use Rattle.engine_stages.proofs.Stages.{lists, text_bad, text_last}
use Rattle.engine.proofs.building.decide_lexicon.Goals as goal

pub returns-in-Err : goal.returns-in-Err
returns-in-Err g c =
    let read = c.in_ok-list in
    let arm = c.in-Err in
    text_bad lists _ _ _ (λ ws. ReadsNoMore (IsBuiltBy ws)) read.field-0 arm.decision read.ensures arm.is tt

pub returns : goal.returns
returns g c =
    let read = c.in_ok-list in
    let arm = c.in-Ok in
    text_last lists _ _ IsBuiltBy read.field-0 arm.list c.in_ok-build_list.field-0 read.ensures arm.is c.in_ok-build_list.ensures
