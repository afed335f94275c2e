-- The answers about tidying a record.
use Rattle.std.specs.Prelude.{ℕ, List}
use Rattle.gcg_write.specs.Normal.{normal_of}
use Rattle.engine_stages.specs.declared.verdicts.Verdict.{Verdict}
use Rattle.engine_stages.specs.declared.verdicts.Verdict.TheVariants as verdict
use Rattle.engine_stages.specs.Reading.{ReadsNoMore, ReadsRecord}
use Rattle.engine_stages.specs.Reporting.{IsReported}

-- What is answered on the bytes of a record: that it is done and its normal form, exactly if the text is that of a
-- record; otherwise the line of the first fault.
abbrev pub IsTidied : (texts : List (List ℕ)) → Verdict → List ℕ → Type 0
IsTidied = ReadsRecord (λ r. ReadsNoMore (IsReported verdict.Done (normal_of r)))
