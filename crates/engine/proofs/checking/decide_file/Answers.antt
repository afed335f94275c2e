use Rattle.std.proofs.Common.{length}
use Rattle.engine_stages.specs.declared.verdicts.Verdict.TheVariants as verdict
use Rattle.engine_stages.specs.Reading.{ReadsNoMore}
use Rattle.engine_stages.specs.Reports.{ok_line}
use Rattle.engine_stages.specs.Reporting.{IsReported}
use Rattle.engine_stages.proofs.Stages.{lexicon_last}
use Rattle.engine.proofs.checking.decide_file.Goals as goal

pub returns : goal.returns
returns g c =
    lexicon_last (λ b. b.items) _ _ c.args.list.now
    (ReadsNoMore (IsReported verdict.Done (ok_line (length c.args.list.now)))) c.in_ok-bytes.bytes c.deref.result.now c.in_ok-check_bytes.field-0 c.in_ok-bytes.ensures
    c.deref.ensures.value c.in_ok-check_bytes.ensures
