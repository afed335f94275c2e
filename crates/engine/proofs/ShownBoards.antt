-- Answers about the board of a record.
use Rattle.std.proofs.Common.{◌≡◌, ◌≢◌, ℕ, List, Option, Some, None, refl, sym, subst, ◌∙◌}
use Rattle.ref_tiles.specs.declared.rulebook.Rules.{Rules}
use Rattle.ref_play.specs.declared.faults.PlayFault.{PlayFault}
use Rattle.gcg_read.specs.declared.records.Record.{Record}
use Rattle.game_board.specs.Laying.{AreLaid}
use Rattle.game_board.specs.Texts.{board_text}
use Rattle.engine_stages.specs.declared.verdicts.Verdict.{Verdict}
use Rattle.engine_stages.specs.declared.verdicts.Verdict.TheVariants as verdict
use Rattle.engine.specs.Boards.{place_asked, IsShown, IsShownAt, IsBoarded}
use Rattle.engine_stages.specs.Reading.{ReadsNoMore}
use Rattle.engine_stages.specs.Reports.{bad_line_line}
use Rattle.engine_stages.specs.Reporting.{IsReported}
use Rattle.engine_stages.specs.laws.Sparing.{Spares, more_spares, record_spares}

pub shown : (rules : Rules) (r : Record) (asked end : ℕ) (why : Option PlayFault) (report : List ℕ) → AreLaid r.events asked end why → report ≡ board_text rules r end why → IsShown rules r asked verdict.Done report
shown rules r asked end why report laid reported = record { verdict_is = refl; end = end; why = why; laid = laid; shown = reported }

-- there is such a place
pub shown_by : (rules : Rules) (r : Record) (given meant : Option ℕ) (place : ℕ) (v : Verdict) (report : List ℕ) → given ≡ meant → given ≡ Some place → IsShown rules r place v report → IsShownAt rules r meant v report
shown_by rules r given meant place v report same is reported = subst (λ o. IsShownAt rules r o v report) (sym is ∙ same) reported

-- or there is none
pub none_there : (rules : Rules) (r : Record) (given meant : Option ℕ) (v : Verdict) (report : List ℕ) → given ≡ meant → given ≡ None → IsReported verdict.BadLine bad_line_line v report → IsShownAt rules r meant v report
none_there rules r given meant v report same is reported = subst (λ o. IsShownAt rules r o v report) (sym is ∙ same) reported

-- no answer says that the rules text is bad
shown_spares : (rules : Rules) (r : Record) (asked : Option ℕ) (v : Verdict) (report : List ℕ) → IsShownAt rules r asked v report → v ≢ verdict.BadRules
shown_spares rules r None v report is same = let e : verdict.BadLine ≡ verdict.BadRules = sym is.verdict_is ∙ same in cc
shown_spares rules r (Some asked) v report is same = let e : verdict.Done ≡ verdict.BadRules = sym is.verdict_is ∙ same in cc

pub board_spares : (rules : Rules) (before : Option ℕ) → Spares verdict.BadRules (IsBoarded rules before)
board_spares rules before =
    record_spares verdict.BadRules (λ r. ReadsNoMore (IsShownAt rules r (place_asked r.events before))) (λ same. cc)
    (λ r. more_spares verdict.BadRules (IsShownAt rules r (place_asked r.events before)) (λ v report is. shown_spares rules r (place_asked r.events before) v report is))
