use Rattle.std.proofs.Common.{◌≡◌, ℕ, List, length, refl, sym, ◌∙◌}
use Rattle.engine_stages.specs.declared.verdicts.Verdict.{Verdict}
use Rattle.engine_stages.specs.declared.verdicts.Verdict.TheVariants as verdict
use Rattle.engine_stages.specs.Reading.{ReadsNoMore, ReadsLexicon}
use Rattle.engine_stages.specs.Reports.{ok_line}
use Rattle.engine_stages.specs.Reporting.{IsReported}
use Rattle.engine_stages.proofs.Runs.{runs, runs_unread}
use Rattle.engine_stages.specs.laws.Sparing.{more_spares, lexicon_spares}
use Rattle.engine_stages.proofs.Stages.{lists, text_bad, list_good}
use Rattle.engine.proofs.checking.run_check.Goals as goal

pub returns-in-Ok-Err : goal.returns-in-Ok-Err
returns-in-Ok-Err g c =
    let arm = c.in-Ok-Err in
    runs (text_bad lists _ _ _ (λ ws. ReadsLexicon ws (ReadsNoMore (IsReported verdict.Done (ok_line (length ws))))) arm.field-0 arm.decision arm.ensures arm.field-0-is (refl, tt)) c.finish.ensures

pub returns-in-Err : goal.returns-in-Err
returns-in-Err g c = runs_unread c.in-Err.ensures (refl, tt)

pub returns : goal.returns
returns g c =
    let arm = c.in-Ok-Ok in
    let Reported : List (List ℕ) → Verdict → List ℕ → Type 0 = λ ws. IsReported verdict.Done (ok_line (length ws)) in
    runs
    (list_good _ _ _ (λ ws. ReadsLexicon ws (ReadsNoMore (Reported ws))) arm.field-0 arm.list c.decide_file-decided.result arm.ensures arm.field-0-is c.decide_file-decided.ensures
    (lexicon_spares verdict.BadList arm.list (ReadsNoMore (Reported arm.list)) (λ same. cc)
    (more_spares verdict.BadList (Reported arm.list) (λ v report reported same. let both : verdict.Done ≡ verdict.BadList = sym reported.verdict_is ∙ same in cc))))
    c.finish-2.ensures
