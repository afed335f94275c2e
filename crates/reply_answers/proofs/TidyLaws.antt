-- The normal form of the record of a text, or that the text is not a record.
use Rattle.std.proofs.Common.{◌≡◌, ℕ, List, [], ◌∷◌, Result, Ok, Err, refl, subst}
use Rattle.gcg_read.specs.declared.records.Record.{Record}
use Rattle.gcg_read.specs.Records.{record_of}
use Rattle.gcg_write.specs.Normal.{normal_of}
use Rattle.engine_stages.specs.declared.decisions.Decision.{Decision}
use Rattle.engine_stages.specs.declared.verdicts.Verdict.TheVariants as verdict
use Rattle.engine_stages.specs.Reading.{ReadsNoMore}
use Rattle.engine_stages.specs.Reports.{bad_record_line}
use Rattle.engine_stages.specs.Stages.{IsRecordOf}
use Rattle.engine_stages.specs.Reporting.{IsReported}
use Rattle.engine_stages.proofs.Stages.{meaning_bad, meaning_good}
use Rattle.engine.specs.Tidying.{IsTidied}
use Rattle.reply_answers.specs.Tidied.{IsTidiedOf}

pub no_record : (text : List ℕ) (read : Result Record Decision) (d : Decision) → read ≡ Err d → IsRecordOf text read → IsTidiedOf text d
no_record text read d is means =
    meaning_bad verdict.BadRecord bad_record_line (λ r. r) (λ r. ReadsNoMore (IsReported verdict.Done (normal_of r))) (record_of text) read d [] is means

pub is_record : (text : List ℕ) (read : Result Record Decision) (r : Record) (report : List ℕ) → read ≡ Ok r → IsRecordOf text read → report ≡ normal_of r
    → IsTidied (text ∷ []) verdict.Done report
is_record text read r report is means normal =
    meaning_good verdict.BadRecord bad_record_line (λ g. g) (λ g. ReadsNoMore (IsReported verdict.Done (normal_of g))) (record_of text) read r [] verdict.Done report is means
    (record { verdict_is = refl; reported = normal })

pub of_read : (text read : List ℕ) (d : Decision) → text ≡ read → IsTidiedOf text d → IsTidiedOf read d
of_read text read d is tidied = subst (λ t. IsTidiedOf t d) is tidied
