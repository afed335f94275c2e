-- What explains the case of a record, or one of its lines, and what else is asked of it.
use Rattle.std.specs.Prelude.{◌≡◌, ◌&&◌, is_none, ℕ, Bool, true, false, List, Option, None, Result, Ok, Err}
use Rattle.ref_tiles.specs.declared.rulebook.Rules.{Rules}
use Rattle.gcg_read.specs.declared.events.Event.{Event}
use Rattle.gcg_read.specs.declared.faults.ReadFault.{ReadFault}
use Rattle.game_turns.specs.declared.faults.RuleFault.{RuleFault}
use Rattle.game_turns.specs.declared.faults.RuleFault.TheVariants as rule
use Rattle.engine_stages.specs.declared.verdicts.GameFault.{GameFault}
use Rattle.engine_stages.specs.declared.verdicts.GameFault.TheVariants as fault
use Rattle.sheet_audit.specs.Wrong.{IsWrongAuditOf}
use Rattle.game_case.specs.declared.audits.Audit.{Audit}
use Rattle.game_case.specs.declared.entries.Entry.{Entry}
use Rattle.game_case.specs.declared.explains.Case.{Case}
use Rattle.game_case.specs.declared.findings.Finding.{Finding}
use Rattle.game_case.specs.declared.findings.Finding.TheVariants as finding
use Rattle.game_case.specs.Explaining.{IsCaseOf}
use Rattle.explain_answers.specs.declared.events.Explanation.{Explanation}
use Rattle.explain_answers.specs.Explaining.{IsExplanation}
use Rattle.repair_single.specs.declared.repair.Repair.{Repair}
use Rattle.repair_answers.specs.Amounts.{IsAmount}
use Rattle.page_answers.specs.Pages.{IsLikelyAsked}
use Rattle.gcg_unread.specs.Lines.{unread_of}
use Rattle.reply_answers.specs.declared.explained.ExplainedCase.{ExplainedCase}

-- what explains the record that was read, or its event on a line or after it; a text that is not a record has nothing that does
abbrev pub IsCaseExplanation : Rules → (list : List (List ℕ)) → Result Entry ReadFault → (line : Option ℕ) → Option Explanation → Type 0
IsCaseExplanation rules list (Ok entry) line x = IsExplanation rules list entry line x
IsCaseExplanation rules list (Err fault) line x = x ≡ None

-- ---- the numbers of a record without a likely repair

-- the first fault of a record is a wrong total
abbrev pub is_total_rule : RuleFault → Bool
is_total_rule (rule.WrongTotal right) = true
is_total_rule other = false

abbrev pub is_total_fault : GameFault → Bool
is_total_fault (fault.Rule why) = is_total_rule why
is_total_fault other = false

abbrev pub has_wrong_total : Finding → Bool
has_wrong_total (finding.Illegal line why) = is_total_fault why
has_wrong_total other = false

-- a bonus or a penalty that would explain them, if the first fault is a wrong total
abbrev pub IsAmountIf : (wrong_total : Bool) → Rules → (list : List (List ℕ)) → List Event → Option Repair → Type 0
IsAmountIf true rules list events amount = IsAmount rules list events amount
IsAmountIf false rules list events amount = amount ≡ None

abbrev pub IsAmountOfCase : Rules → (list : List (List ℕ)) → Result Entry ReadFault → Option Repair → Type 0
IsAmountOfCase rules list (Ok entry) amount = IsAmountIf (has_wrong_total entry.finding) rules list entry.record.events amount
IsAmountOfCase rules list (Err fault) amount = amount ≡ None

abbrev pub IsAmountAsked : (asked : Bool) → Rules → (list : List (List ℕ)) → Result Entry ReadFault → Option Repair → Type 0
IsAmountAsked true rules list read amount = IsAmountOfCase rules list read amount
IsAmountAsked false rules list read amount = amount ≡ None

-- the audit of the sheet, if a number of it is wrong
abbrev pub IsWrongAsked : (asked : Bool) → Rules → (list : List (List ℕ)) → (text : List ℕ) → Result Entry ReadFault → Option Audit → Type 0
IsWrongAsked true rules list text read wrong = IsWrongAuditOf rules list text read wrong
IsWrongAsked false rules list text read wrong = wrong ≡ None

-- ---- the whole

-- a case with what explains it or one of its lines, its likely repair if that is asked for the record as a whole, and what is said of its numbers if
-- that is asked for and there is none; and its lines that are not read
pub record Explains (rules : Rules) (list : List (List ℕ)) (case : Case) (line : Option ℕ) (likely lead : Bool) (x : ExplainedCase) : Type 0 where
  pub of_case : x.case ≡ case
  pub on_line : x.line ≡ line
  pub explanation : IsCaseExplanation rules list case.read line x.explanation
  pub repair : IsLikelyAsked (likely && is_none line) rules list case.text.items case.read x.likely
  pub amount : IsAmountAsked (lead && is_none line && is_none x.likely) rules list case.read x.amount
  pub numbers : (text : List ℕ) → IsCaseOf rules list text case → IsWrongAsked (lead && is_none line && is_none x.likely) rules list text case.read x.wrong
  pub lines : x.unread.items ≡ unread_of x.case.text.items

-- the same for the case of a text
pub record IsExplainedCase (rules : Rules) (list : List (List ℕ)) (text : List ℕ) (line : Option ℕ) (likely lead : Bool) (x : ExplainedCase) : Type 0 where
  pub opened : IsCaseOf rules list text x.case
  pub on_line : x.line ≡ line
  pub explanation : IsCaseExplanation rules list x.case.read line x.explanation
  pub repair : IsLikelyAsked (likely && is_none line) rules list text x.case.read x.likely
  pub amount : IsAmountAsked (lead && is_none line && is_none x.likely) rules list x.case.read x.amount
  pub numbers : IsWrongAsked (lead && is_none line && is_none x.likely) rules list text x.case.read x.wrong
  pub lines : x.unread.items ≡ unread_of x.case.text.items
