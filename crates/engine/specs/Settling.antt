-- The settled verdict on the inputs of a game: by any deal that is found, or by a proof that there is none.
use Rattle.std.specs.Prelude.{◌≡◌, ◌⊎◌, ℕ, Bool, List}
use Rattle.ref_tiles.specs.declared.rulebook.Rules.{Rules}
use Rattle.gcg_read.specs.declared.events.Event.{Event}
use Rattle.gcg_read.specs.declared.records.Record.{Record}
use Rattle.deal_cuts.specs.declared.earlier.Earlier.{Earlier}
use Rattle.engine.specs.declared.judging.Judging.{Judging}
use Rattle.engine.specs.declared.judging.Judging.TheVariants as judging
use Rattle.engine_stages.specs.declared.verdicts.GameFault.TheVariants as game
use Rattle.engine_stages.specs.declared.verdicts.Verdict.{Verdict}
use Rattle.engine_stages.specs.declared.verdicts.Verdict.TheVariants as verdict
use Rattle.engine.specs.Headlines.{MeansLegal, MeansNoGame}
use Rattle.engine.specs.Judging.{IsReportedLegal, IsRefused, IsPastBound, RemainsOpen, IsJudged}
use Rattle.engine_stages.specs.Reading.{ReadsNoMore, ReadsList, ReadsLexicon, ReadsRecord, ReadsRules}
use Rattle.engine_stages.specs.Reports.{illegal_line}
use Rattle.engine_stages.specs.Reporting.{IsReported}
use Rattle.game_deal.specs.Verdicts.{IsGame, HasNoDealBy}
use Rattle.game_case.specs.declared.findings.Finding.{Finding}
use Rattle.game_case.specs.Settling.{IsTriedAs, IsSettledAs}

-- the record is a game, and the report is that of a legal game
pub record IsSettledLegal (rules : Rules) (words : List (List ℕ)) (r : Record) (v : Verdict) (report : List ℕ) : Type 0 where
  pub game : IsGame rules words r.events
  pub reported : IsReportedLegal rules words r v report

-- no racks fit the steps up to the event on a line, that one included, and this is known of the steps before it, and
-- the report says so
pub record IsUndealt (rules : Rules) (words : List (List ℕ)) (r : Record) (v : Verdict) (report : List ℕ) : Type 0 where
  pub line : ℕ
  pub earlier : Earlier
  pub ends : HasNoDealBy rules words r.events line earlier
  pub reported : IsReported (verdict.Illegal line (game.NoDeal earlier)) (illegal_line line (game.NoDeal earlier)) v report

-- What is answered on a record, by the words of a list. A record is left open only if the deal of the rule does not fit and no
-- bound is exceeded.
abbrev pub IsSettled : Rules → (words : List (List ℕ)) → Record → Verdict → (report : List ℕ) → Type 0
IsSettled rules words r v report =
    IsSettledLegal rules words r v report ⊎ IsRefused rules words r v report ⊎ IsPastBound rules words r v report ⊎ IsUndealt rules words r v report
    ⊎ RemainsOpen rules words r v report

-- what is found of events that the rules allow, only by the deal of the rule of completion or by a search
abbrev pub IsFoundBy : Judging → Rules → (words : List (List ℕ)) → List Event → Finding → Type 0
IsFoundBy judging.ByRule rules words events f = IsTriedAs rules words events f
IsFoundBy judging.BySearch rules words events f = IsSettledAs rules words events f

-- what is answered on a record, only by the deal of the rule of completion or by a search
abbrev pub IsJudgedBy : Judging → Rules → (words : List (List ℕ)) → Record → Verdict → (report : List ℕ) → Type 0
IsJudgedBy judging.ByRule rules words r v report = IsJudged rules words r v report
IsJudgedBy judging.BySearch rules words r v report = IsSettled rules words r v report

-- What is answered on the bytes of a word list, a lexicon and a record.
abbrev pub IsSettledBy : Rules → (texts : List (List ℕ)) → Verdict → (report : List ℕ) → Type 0
IsSettledBy rules = ReadsList (λ words. ReadsLexicon words (ReadsRecord (λ r. ReadsNoMore (IsSettled rules words r))))

-- the same by the rules that a text means, which is read before the other inputs
abbrev pub IsSettledByText : (texts : List (List ℕ)) → Verdict → (report : List ℕ) → Type 0
IsSettledByText = ReadsRules IsSettledBy

-- ---- laws

-- that a game is legal means what the headline says, whichever deal was found
abbrev pub SettledLegalMeansLegal : Type 0
SettledLegalMeansLegal = MeansLegal IsSettledBy

-- what is legal by the deal of the rule is legal if a deal is searched for
abbrev pub LegalStaysLegal : Type 0
LegalStaysLegal =
    (rules : Rules) (words : List (List ℕ)) (r : Record) (complete : Bool) (report : List ℕ) → IsJudged rules words r (verdict.Legal complete) report
    → (v : Verdict) (settled : List ℕ) → IsSettled rules words r v settled → v ≡ verdict.Legal complete

-- that it is illegal means that the record is not a game by the words of the list
abbrev pub SettledIllegalMeansNoGame : Type 0
SettledIllegalMeansNoGame = MeansNoGame IsSettledBy
