use Rattle.gcg_write.specs.Normal.{normal_of}
use Rattle.engine_stages.specs.declared.verdicts.Verdict.TheVariants as verdict
use Rattle.engine_stages.specs.Reading.{ReadsNoMore}
use Rattle.engine_stages.specs.Reporting.{IsReported}
use Rattle.engine_stages.proofs.Stages.{records, text_bad, text_last}
use Rattle.engine.proofs.tidying.decide_tidy.Goals as goal

pub returns-in-Err : goal.returns-in-Err
returns-in-Err g c =
    let read = c.in_ok-record in
    let arm = c.in-Err in
    text_bad records _ _ _ (λ r. ReadsNoMore (IsReported verdict.Done (normal_of r))) read.field-0 arm.decision read.ensures arm.is tt

pub returns : goal.returns
returns g c =
    let read = c.in_ok-record in
    let arm = c.in-Ok in
    text_last records _ _ (λ r. IsReported verdict.Done (normal_of r)) read.field-0 arm.record c.in_ok-tidy.field-0 read.ensures arm.is c.in_ok-tidy.ensures
