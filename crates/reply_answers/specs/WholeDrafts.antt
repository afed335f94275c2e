-- Laws of texts that are records and are read as drafts. Nothing is missing, so what is found is what is found of the records.
use Rattle.std.specs.Prelude.{◌≡◌, ℕ, Bool, true, false, List, Option, Some, None, Ok}
use Rattle.ref_tiles.specs.declared.rulebook.Rules.{Rules}
use Rattle.gcg_read.specs.declared.records.Record.{Record}
use Rattle.gcg_read.specs.Records.{record_of}
use Rattle.explain_answers.specs.declared.events.Explanation.{Explanation}
use Rattle.reply_answers.specs.declared.compared.SheetsFound.{SheetsFound}
use Rattle.reply_answers.specs.declared.explained.ExplainedCase.{ExplainedCase}
use Rattle.reply_answers.specs.Compared.{IsComparedOf}
use Rattle.reply_answers.specs.Explained.{IsExplainedCase}
use Rattle.reply_answers.specs.Given.{read_of}
use Rattle.reply_answers.specs.OnDrafts.{IsExplainedAs}

-- ---- `explain`

-- the same line, picture and facts
pub record IsSameExplanation (found reported : Explanation) : Type 0 where
  pub line : reported.line ≡ found.line
  pub picture : reported.picture ≡ found.picture
  pub facts : reported.facts.items ≡ found.facts.items

abbrev pub IsSameOf : Option Explanation → Option Explanation → Type 0
IsSameOf None None = Unit {0}
IsSameOf (Some found) (Some reported) = IsSameExplanation found reported
IsSameOf found reported = ⊥

-- all that is found is reported
pub record IsAllOf (found reported : ExplainedCase) : Type 0 where
  pub read : reported.case.read ≡ found.case.read
  pub line : reported.line ≡ found.line
  pub explanation : IsSameOf found.explanation reported.explanation
  pub likely : reported.likely ≡ found.likely
  pub amount : reported.amount ≡ found.amount
  pub wrong : reported.wrong ≡ found.wrong
  pub unread : reported.unread ≡ found.unread

-- what is reported is what is found of the record, without a likely repair
pub record IsReportedAsRecord (rules : Rules) (list : List (List ℕ)) (game : List ℕ) (line : Option ℕ) (lead : Bool) (reported : ExplainedCase) : Type 0 where
  pub found : ExplainedCase
  pub is : IsExplainedCase rules list (read_of game) line false lead found
  pub all : IsAllOf found reported

abbrev pub ExplainedAsRecord : Type 0
ExplainedAsRecord =
    (rules : Rules) (list : List (List ℕ)) (game : List ℕ) (r : Record) (line : Option ℕ) (likely lead : Bool) (reported : ExplainedCase)
    → record_of game ≡ Ok r → IsExplainedAs true rules list game line likely lead reported → IsReportedAsRecord rules list game line lead reported

-- ---- `compare`

abbrev pub ComparedAsRecords : Type 0
ComparedAsRecords =
    (rules : Rules) (list : List (List ℕ)) (first second : List ℕ) (one other : Record) (merged : Bool) (x : SheetsFound)
    → record_of first ≡ Ok one → record_of second ≡ Ok other → IsComparedOf true rules list first second merged x → IsComparedOf false rules list first second merged x
