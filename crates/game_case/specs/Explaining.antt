-- What is to be explained of one sheet, by a word list and a lexicon that were read before.
use Rattle.std.specs.Prelude.{⊤, ◌≡◌, ℕ, false, List, Result, Ok, Err, Option, Some, None}
use Rattle.ref_tiles.specs.declared.rulebook.Rules.{Rules}
use Rattle.gcg_read.specs.declared.faults.ReadFault.{ReadFault}
use Rattle.game_walk.specs.declared.walking.Walk.{Walk}
use Rattle.game_walk.specs.Walks.{IsWalkOf}
use Rattle.game_case.specs.declared.entries.Entry.{Entry}
use Rattle.game_case.specs.declared.explains.Case.{Case}
use Rattle.game_case.specs.declared.findings.Finding.{Finding}
use Rattle.game_case.specs.declared.findings.Finding.TheVariants as finding
use Rattle.engine_stages.specs.declared.verdicts.Verdict.{Verdict}
use Rattle.engine_stages.specs.declared.verdicts.Verdict.TheVariants as verdict
use Rattle.game_case.specs.Archiving.{IsEntryOf}
use Rattle.engine_stages.specs.Reports.{legal_line, illegal_line, unsettled_line, bad_record_line}

-- the settled verdict of what is found of a record: a record without an event is a legal game that is not finished
abbrev pub verdict_in : Finding → Verdict
verdict_in finding.NoGame = verdict.Legal false
verdict_in (finding.Legal complete) = verdict.Legal complete
verdict_in (finding.Illegal line fault) = verdict.Illegal line fault
verdict_in finding.Unsettled = verdict.Unsettled

-- the line that gives it
abbrev pub finding_line : Finding → List ℕ
finding_line finding.NoGame = legal_line false
finding_line (finding.Legal complete) = legal_line complete
finding_line (finding.Illegal line fault) = illegal_line line fault
finding_line finding.Unsettled = unsettled_line

-- the same for a record that was read, or for a text that is not one
abbrev pub case_verdict : Result Entry ReadFault → Verdict
case_verdict (Ok entry) = verdict_in entry.finding
case_verdict (Err fault) = verdict.BadRecord

abbrev pub case_line : Result Entry ReadFault → List ℕ
case_line (Ok entry) = finding_line entry.finding
case_line (Err fault) = bad_record_line fault

-- a walk over the events of the record of an entry; none if there is no record
abbrev pub IsWalkFor : Rules → (list : List (List ℕ)) → Result Entry ReadFault → Option Walk → Type 0
IsWalkFor rules list (Ok entry) (Some walk) = IsWalkOf rules list entry.record.events walk
IsWalkFor rules list (Ok entry) None = ⊥
IsWalkFor rules list (Err fault) (Some walk) = ⊥
IsWalkFor rules list (Err fault) None = ⊤

-- a case has its walk: the one over its record, if there is one
abbrev pub HasItsWalk : Rules → (list : List (List ℕ)) → Case → Type 0
HasItsWalk rules list case = IsWalkFor rules list case.read case.walk

-- the case of a text: the text itself, and the entry of the record that it means, or its first fault; and the walk over the record
abbrev pub IsCaseOf : Rules → (list : List (List ℕ)) → (text : List ℕ) → Case → Type 0
IsCaseOf rules list text case = (case.text.items ≡ text) × IsEntryOf rules list text case.read × IsWalkFor rules list case.read case.walk
