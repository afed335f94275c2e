-- What is kept of the sheet of a game.
use Rattle.std.specs.Prelude.{◌≡◌, ⊤, ℕ, Bool, true, false, List, Option, Some, None, Result, Ok, Err}
use Rattle.std.specs.Borrow.{Bor}
use Rattle.ref_tiles.specs.declared.rulebook.Rules.{Rules}
use Rattle.gcg_read.specs.declared.faults.ReadFault.{ReadFault}
use Rattle.game_case.specs.declared.entries.Entry.{Entry}
use Rattle.game_case.specs.declared.explains.Case.{Case}
use Rattle.game_case.specs.declared.findings.Finding.{Finding}
use Rattle.game_case.specs.declared.findings.Finding.TheVariants as finding
use Rattle.repair_answers.specs.declared.likely.Likely.{Likely}
use Rattle.archive_lines.specs.declared.pages.PageField.{PageField}
use Rattle.archive_lines.specs.declared.pages.PageField.TheVariants as field
use Rattle.page_answers.specs.declared.makers.Maker.{Maker}
use Rattle.page_answers.specs.Pages.{IsPagedCase}
use Rattle.archive_answers.specs.declared.sheets.GameSheet.{GameSheet}
use Rattle.archive_answers.specs.declared.sheets.GameSheet.TheVariants as kept

-- what was read of a text has a page if it is a record with an event
abbrev pub has_event : Finding → Bool
has_event finding.NoGame = false
has_event other = true

abbrev pub has_page : Result Entry ReadFault → Bool
has_page (Ok entry) = has_event entry.finding
has_page (Err fault) = false

-- the case of a text with what its page shows, or no memory for that
abbrev pub IsPaged : (asked : Bool) → Maker → Rules → (list : List (List ℕ)) → (text : List ℕ) → Case → GameSheet → Type 0
IsPaged asked maker rules list text case (kept.Paged paged) = (paged.case ≡ case) × IsPagedCase asked maker rules list text paged
IsPaged asked maker rules list text case kept.NoMemory = ⊤
IsPaged asked maker rules list text case other = ⊥

-- the case itself with its likely repair, without what a page shows
abbrev pub IsPlain : Case → Option Likely → GameSheet → Type 0
IsPlain case likely (kept.Plain g) = (g.case ≡ case) × (g.likely ≡ likely)
IsPlain case likely other = ⊥

-- What is kept of the case of a text if pages are asked for: what its page shows, if it has one.
abbrev pub IsKept : (paged : Bool) → (asked : Bool) → Maker → Rules → (list : List (List ℕ)) → (text : List ℕ) → Case → Option Likely → GameSheet → Type 0
IsKept true asked maker rules list text case likely sheet = IsPaged asked maker rules list text case sheet
IsKept false asked maker rules list text case likely sheet = IsPlain case likely sheet

-- the same with what pages are made by, if they are asked for
abbrev pub IsSheetOf : (asked : Bool) → Option (Bor Maker) → Rules → (list : List (List ℕ)) → (text : List ℕ) → Case → Option Likely → GameSheet → Type 0
IsSheetOf asked (Some maker) rules list text case likely sheet = IsKept (has_page case.read) asked maker.now rules list text case likely sheet
IsSheetOf asked None rules list text case likely sheet = IsPlain case likely sheet

-- what a line says of a page before one is written, if pages are asked for: that there is none, that it is not written, or that there was no memory
abbrev pub page_of : GameSheet → PageField
page_of (kept.Unread why) = field.Missing
page_of (kept.Plain g) = field.Missing
page_of (kept.Paged paged) = field.CannotWrite
page_of kept.NoMemory = field.NoMemory

abbrev pub page_before : (asked : Bool) → GameSheet → Option PageField
page_before true sheet = Some (page_of sheet)
page_before false sheet = None
