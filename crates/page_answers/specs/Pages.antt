-- What the page of a case shows.
use Rattle.std.specs.Prelude.{◌≡◌, ⊤, ℕ, nat_lt, Bool, true, false, List, length, Option, Some, None, Result, Ok, Err, if◌then◌else◌}
use Rattle.ref_tiles.specs.declared.rulebook.Rules.{Rules}
use Rattle.gcg_read.specs.declared.events.Event.{Event}
use Rattle.gcg_read.specs.declared.faults.ReadFault.{ReadFault}
use Rattle.game_walk.specs.declared.walking.Walk.{Walk}
use Rattle.game_walk.specs.Walks.{IsWalk}
use Rattle.sheet_audit.specs.Wrong.{IsWrongAuditOf}
use Rattle.game_case.specs.declared.audits.Audit.{Audit}
use Rattle.game_case.specs.declared.entries.Entry.{Entry}
use Rattle.game_case.specs.declared.findings.Finding.{Finding}
use Rattle.game_case.specs.Explaining.{case_line, IsCaseOf}
use Rattle.explain_answers.specs.Openings.{place_of_fault}
use Rattle.explain_answers.specs.Explaining.{IsExplanation}
use Rattle.gcg_about.specs.Encodings.{encoding_of}
use Rattle.gcg_about.specs.Words.{AreWordsOf}
use Rattle.repair_answers.specs.declared.likely.Likely.{Likely}
use Rattle.repair_answers.specs.Likely.{IsLikelyOfCase}
use Rattle.page_answers.specs.declared.makers.Maker.{Maker}
use Rattle.page_answers.specs.declared.contents.PageContents.{PageContents}
use Rattle.page_answers.specs.declared.cases.PagedCase.{PagedCase}
use Rattle.page_answers.specs.Repaired.{IsRepairedBoard}
use Rattle.page_answers.specs.Sheets.{IsPageSheet}

-- a place, if it is that of one of `many` events
abbrev pub place_within : (many : ℕ) → Option ℕ → Option ℕ
place_within many None = None
place_within many (Some place) = if nat_lt place many then Some place else None

-- the place of the faulty event, if the record has it
abbrev pub faulty_place : List Event → Finding → Option ℕ
faulty_place events found = place_within (length events) (place_of_fault events found)

-- the place of the board in view: that of the faulty event, or the end
abbrev pub place_in_view : List Event → (faulty : Option ℕ) → ℕ
place_in_view events None = length events
place_in_view events (Some place) = place

-- the audit of what was read from a text, if a number is wrong and no likely repair is shown
abbrev pub IsAuditShown : Rules → (list : List (List ℕ)) → (text : List ℕ) → Result Entry ReadFault → (likely : Option Likely) → Option Audit → Type 0
IsAuditShown rules list text read None audit = IsWrongAuditOf rules list text read audit
IsAuditShown rules list text read (Some likely) audit = audit ≡ None

-- What a page shows of the entry of a text: the place of its fault, the line of its verdict and what explains it, the encoding of the text and its
-- words in addition to the events, and the score sheet of the record, compared with the events with their right numbers, with the board at the faulty
-- event or at the end; of the likely repair, if one is given, the board with the play as it should be; and if none is, the audit of a sheet with a wrong
-- number.
pub record ShowsEntry (rules : Rules) (list : List (List ℕ)) (text : List ℕ) (read : Result Entry ReadFault) (likely : Option Likely) (entry : Entry) (contents : PageContents) : Type 0 where
  pub faulty : contents.faulty ≡ faulty_place entry.record.events entry.finding
  pub verdict : contents.verdict.items ≡ case_line read
  pub explanation : IsExplanation rules list entry None contents.explanation
  pub encoding : contents.encoding ≡ encoding_of text
  pub words : AreWordsOf text contents.words
  pub right : List Event
  pub walk : Walk
  pub walked : IsWalk rules list entry.record.events right walk
  pub sheet : IsPageSheet rules list entry.record right (place_in_view entry.record.events contents.faulty) contents.sheet
  pub repaired : IsRepairedBoard likely contents.repaired
  pub audited : IsAuditShown rules list text read likely contents.audit

-- the same for what was read from a text; nothing if that is not a record
abbrev pub IsShownOf : Rules → (list : List (List ℕ)) → (text : List ℕ) → Result Entry ReadFault → (likely : Option Likely) → Option PageContents → Type 0
IsShownOf rules list text (Ok entry) likely (Some contents) = ShowsEntry rules list text (Ok entry) likely entry contents
IsShownOf rules list text (Ok entry) likely None = ⊥
IsShownOf rules list text (Err fault) likely (Some contents) = ⊥
IsShownOf rules list text (Err fault) likely None = ⊤

-- the likely repair of what was read from a text, if it is asked for
abbrev pub IsLikelyAsked : (asked : Bool) → Rules → (list : List (List ℕ)) → (text : List ℕ) → Result Entry ReadFault → Option Likely → Type 0
IsLikelyAsked true rules list text read likely = IsLikelyOfCase rules list text read likely
IsLikelyAsked false rules list text read likely = likely ≡ None

-- the case of a text with its likely repair, if that is asked for, what its page shows, by what rules, and what the page is made by
pub record IsPagedCase (asked : Bool) (maker : Maker) (rules : Rules) (list : List (List ℕ)) (text : List ℕ) (paged : PagedCase) : Type 0 where
  pub of_text : IsCaseOf rules list text paged.case
  pub by_rules : paged.rules ≡ rules
  pub made_by : paged.maker ≡ maker
  pub repair : IsLikelyAsked asked rules list text paged.case.read paged.likely
  pub shown : IsShownOf rules list text paged.case.read paged.likely paged.contents
