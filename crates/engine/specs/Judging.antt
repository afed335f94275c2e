-- The verdict on the inputs of a game, with its report.
use Rattle.std.specs.Prelude.{◌≡◌, ◌⊎◌, ℕ, List}
use Rattle.ref_tiles.specs.declared.rulebook.Rules.{Rules}
use Rattle.gcg_read.specs.declared.records.Record.{Record}
use Rattle.game_turns.specs.declared.faults.RuleFault.{RuleFault}
use Rattle.game_turns.specs.Places.{AreAllowed, IsFirstRefusal, is_finished}
use Rattle.deal_steps.specs.declared.faults.DealBound.{DealBound}
use Rattle.deal_steps.specs.declared.faults.DealBound.TheVariants as deal
use Rattle.engine_stages.specs.declared.verdicts.GameFault.TheVariants as game
use Rattle.engine_stages.specs.declared.verdicts.Verdict.{Verdict}
use Rattle.engine_stages.specs.declared.verdicts.Verdict.TheVariants as verdict
use Rattle.engine_stages.specs.Reading.{ReadsNoMore, ReadsList, ReadsLexicon, ReadsRecord, ReadsRules}
use Rattle.engine_stages.specs.Reports.{illegal_line, unsettled_line}
use Rattle.engine.specs.LegalReports.{IsLegalReport}
use Rattle.engine_stages.specs.Reporting.{IsReported}
use Rattle.game_deal.specs.Verdicts.{IsDealt, Exceeds, IsUnsettled}

-- the report of a legal game: the verdict says whether it has ended, and the report has a line for each event
pub record IsReportedLegal (rules : Rules) (words : List (List ℕ)) (r : Record) (v : Verdict) (report : List ℕ) : Type 0 where
  pub verdict_is : v ≡ verdict.Legal (is_finished rules r.events)
  pub reported : IsLegalReport rules words (is_finished rules r.events) r report

-- every event is allowed, the rule of completion gives a deal that fits, and the report is that of a legal game
pub record IsLegal (rules : Rules) (words : List (List ℕ)) (r : Record) (v : Verdict) (report : List ℕ) : Type 0 where
  pub allowed : AreAllowed rules words r.events
  pub is_dealt : IsDealt rules r.events
  pub reported : IsReportedLegal rules words r v report

-- the report gives the first event that is not allowed: its line and its first failing check
pub record IsRefused (rules : Rules) (words : List (List ℕ)) (r : Record) (v : Verdict) (report : List ℕ) : Type 0 where
  pub line : ℕ
  pub why : RuleFault
  pub first : IsFirstRefusal rules words r.events line why
  pub reported : IsReported (verdict.Illegal line (game.Rule why)) (illegal_line line (game.Rule why)) v report

-- the report that a bound is exceeded
abbrev pub IsReportedBound : DealBound → Verdict → List ℕ → Type 0
IsReportedBound (deal.RackTooBig line) v report = IsReported (verdict.Illegal line game.RackTooBig) (illegal_line line game.RackTooBig) v report
IsReportedBound (deal.TilesShort line kind) v report = IsReported (verdict.Illegal line (game.TilesShort kind)) (illegal_line line (game.TilesShort kind)) v report

-- every event is allowed, and the report gives the first bound that is exceeded
pub record IsPastBound (rules : Rules) (words : List (List ℕ)) (r : Record) (v : Verdict) (report : List ℕ) : Type 0 where
  pub bound : DealBound
  pub exceeded : Exceeds rules words r.events bound
  pub reported : IsReportedBound bound v report

-- neither a deal nor an exceeded bound was found, and the report says so
pub record RemainsOpen (rules : Rules) (words : List (List ℕ)) (r : Record) (v : Verdict) (report : List ℕ) : Type 0 where
  pub unsettled : IsUnsettled rules words r.events
  pub reported : IsReported verdict.Unsettled unsettled_line v report

-- what is answered on a record, by the words of a list
abbrev pub IsJudged : Rules → (words : List (List ℕ)) → Record → Verdict → (report : List ℕ) → Type 0
IsJudged rules words r v report = IsLegal rules words r v report ⊎ IsRefused rules words r v report ⊎ IsPastBound rules words r v report ⊎ RemainsOpen rules words r v report

-- What is answered on the bytes of a word list, a lexicon and a record.
abbrev pub IsDecided : Rules → (texts : List (List ℕ)) → Verdict → (report : List ℕ) → Type 0
IsDecided rules = ReadsList (λ words. ReadsLexicon words (ReadsRecord (λ r. ReadsNoMore (IsJudged rules words r))))

-- the same by the rules that a text means, which is read before the other inputs
abbrev pub IsDecidedByText : (texts : List (List ℕ)) → Verdict → (report : List ℕ) → Type 0
IsDecidedByText = ReadsRules IsDecided
