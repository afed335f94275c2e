-- The object of a reply, and the text that goes with it or stands in its place.
use Rattle.std.specs.Prelude.{◌≡◌, ◌&&◌, ℕ, Bool, true, false, List, Vec, Option, Some, None, Result, Ok, Err, is_some, IfSome, MatchOption, if◌then◌else◌}
use Rattle.json.specs.Json.{Json}
use Rattle.json_trees.specs.Texts.{json_line}
use Rattle.gcg_read.specs.declared.faults.ReadFault.{ReadFault}
use Rattle.gcg_drafts.specs.declared.missing.Missing.{Missing}
use Rattle.gcg_unread.specs.declared.lines.UnreadLine.{UnreadLine}
use Rattle.gcg_unread.specs.Lines.{unread_of}
use Rattle.engine_stages.specs.declared.decisions.Decision.{Decision}
use Rattle.engine_stages.specs.declared.verdicts.Verdict.{Verdict}
use Rattle.engine_stages.specs.declared.verdicts.Verdict.TheVariants as verdict
use Rattle.game_answers.specs.declared.boards.ShownBoard.{ShownBoard}
use Rattle.game_answers.specs.declared.games.JudgedGame.{JudgedGame}
use Rattle.game_answers.specs.declared.tops.FoundPlays.{FoundPlays}
use Rattle.game_case.specs.declared.entries.Entry.{Entry}
use Rattle.explain_answers.specs.declared.events.Explanation.{Explanation}
use Rattle.sheet_audit.specs.declared.answers.AuditAnswer.{AuditAnswer}
use Rattle.sheet_audit.specs.Standing.{is_written}
use Rattle.repair_answers.specs.declared.answers.RepairAnswer.{RepairAnswer}
use Rattle.draft_answers.specs.declared.faults.DraftFault.{DraftFault}
use Rattle.draft_answers.specs.declared.filled.FilledDraft.{FilledDraft}
use Rattle.draft_answers.specs.declared.next.DraftNext.{DraftNext}
use Rattle.page_answers.specs.declared.cases.PagedCase.{PagedCase}
use Rattle.page_answers.specs.declared.contents.PageContents.{PageContents}
use Rattle.sheet_notes.specs.declared.sheets.AnnotatedSheet.{AnnotatedSheet}
use Rattle.sheet_notes.specs.Texts.{IsAnnotated}
use Rattle.reply_answers.specs.declared.compared.BadSheet.{BadSheet}
use Rattle.reply_answers.specs.declared.compared.BadSheet.TheVariants as bad
use Rattle.reply_answers.specs.declared.compared.SheetsFound.{SheetsFound}
use Rattle.reply_answers.specs.declared.compared.SheetsFound.TheVariants as sheets
use Rattle.reply_calls.specs.declared.printed.Printed.{Printed}
use Rattle.reply_answers.specs.declared.repaired.RepairedCase.{RepairedCase}
use Rattle.reply_answers.specs.declared.replies.Reply.{Reply}
use Rattle.reply_answers.specs.declared.replies.Reply.TheVariants as reply
use Rattle.reply_answers.specs.declared.words.Ruled.{Ruled}
use Rattle.json_base.specs.Refusals.{bad_record_object, checked_object, decision_object, no_game_object}
use Rattle.game_json.specs.Games.{judged_object}
use Rattle.game_json.specs.Plays.{found_object}
use Rattle.sheet_json.specs.Audits.{audit_object}
use Rattle.sheet_json.specs.Boards.{board_object}
use Rattle.sheet_json.specs.Rulings.{no_word_object, ruling_object}
use Rattle.draft_json.specs.Faults as draft
use Rattle.draft_json.specs.Fills.{fill_object}
use Rattle.draft_json.specs.Nexts.{next_object}
use Rattle.repair_json.specs.Answers.{answer_object}
use Rattle.repair_json.specs.BadRecords.{bad_object}
use Rattle.compare_json.specs.Answers.{comparison_object}
use Rattle.reply_texts.specs.Cases.{case_object}
use Rattle.reply_texts.specs.Bodies.{bytes_of}
use Rattle.reply_texts.specs.Kept.{has_event, has_merged, IsCorrectedText, IsNormalForm, IsSheetKept, IsNoSheetKept}

-- whether a text is a record with an event
abbrev pub has_sheet : Result Entry ReadFault → Bool
has_sheet (Ok entry) = has_event entry.finding
has_sheet (Err fault) = false

-- ---- judged games, audits, boards and best plays, or that the record or the rack is not one

abbrev pub judged_of : Result JudgedGame Decision → List UnreadLine → Json
judged_of (Ok game) unread = judged_object game unread
judged_of (Err d) unread = decision_object d

abbrev pub audited_of : Result AuditAnswer Decision → List UnreadLine → Json
audited_of (Ok answer) unread = audit_object answer unread
audited_of (Err d) unread = decision_object d

abbrev pub boarded_of : Result (Option ShownBoard) Decision → List UnreadLine → Json
boarded_of (Ok board) unread = board_object board unread
boarded_of (Err d) unread = decision_object d

abbrev pub plays_of : Result FoundPlays Decision → Json
plays_of (Ok plays) = found_object plays
plays_of (Err d) = decision_object d

-- the corrected record, exactly if it is requested and is to be written
abbrev pub IsAuditedText : AuditAnswer → (corrected : Bool) → Option (List ℕ) → Type 0
IsAuditedText a corrected text = (is_some text ≡ (corrected && is_written a)) × IfSome text (IsCorrectedText a)

abbrev pub IsAuditedOf : Result AuditAnswer Decision → (corrected : Bool) → Option (List ℕ) → Type 0
IsAuditedOf (Ok a) corrected text = IsAuditedText a corrected text
IsAuditedOf (Err d) corrected text = text ≡ None

-- ---- the ruling on words, or that a text is not a word

abbrev pub ruled_of : Option Ruled → Json
ruled_of (Some ruled) = ruling_object ruled.words.items ruled.ruling
ruled_of None = no_word_object

-- ---- the normal form of a record, or that the text is not one

abbrev pub is_done : Verdict → Bool
is_done (verdict.Legal complete) = false
is_done (verdict.Illegal line fault) = false
is_done verdict.Unsettled = false
is_done verdict.Done = true
is_done verdict.BadList = false
is_done verdict.BadFile = false
is_done verdict.BadRecord = false
is_done verdict.BadRack = false
is_done verdict.BadRules = false
is_done verdict.BadLine = false

abbrev pub tidied_object : Decision → Option Json
tidied_object d = if is_done d.verdict then None else Some (decision_object d)

abbrev pub tidied_text : Decision → Option (List ℕ)
tidied_text d = if is_done d.verdict then Some d.report.items else None

-- ---- a page, or a sheet with notes; what `explain` says of the case if there is none

abbrev pub reported_of : Option PageContents → Option Explanation
reported_of None = None
reported_of (Some contents) = contents.explanation

abbrev pub paged_object : PagedCase → Option Json
paged_object x = if has_sheet x.case.read then None else Some (case_object x.case (reported_of x.contents) x.likely (unread_of x.case.text.items))

abbrev pub annotated_object : AnnotatedSheet → Option Json
annotated_object sheet = if has_sheet sheet.case.read then None else Some (case_object sheet.case None None (unread_of sheet.case.text.items))

abbrev pub IsAnnotatedText : AnnotatedSheet → Option (List ℕ) → Type 0
IsAnnotatedText sheet text = (is_some text ≡ has_sheet sheet.case.read) × IfSome text (IsAnnotated sheet.case.text.items)

-- ---- two sheets, compared, or that one of them has nothing to compare

abbrev pub bad_sheet_of : BadSheet → Json
bad_sheet_of (bad.NoRecord fault) = bad_record_object fault
bad_sheet_of (bad.NoDraft fault) = draft.bad_object fault
bad_sheet_of (bad.NoEvent unread) = no_game_object unread.items

abbrev pub compared_of : SheetsFound → Json
compared_of (sheets.Both both) = comparison_object both.answer
compared_of (sheets.FirstBad why) = bad_sheet_of why
compared_of (sheets.SecondBad why) = bad_sheet_of why

-- the merged record, exactly if it is requested and there is one
abbrev pub IsComparedText : SheetsFound → Option (List ℕ) → Type 0
IsComparedText (sheets.Both both) text = (is_some text ≡ (both.merged && has_merged both.answer.merged)) × IfSome text (IsNormalForm both.answer.merged)
IsComparedText (sheets.FirstBad why) text = text ≡ None
IsComparedText (sheets.SecondBad why) text = text ≡ None

-- ---- what repairs a record, or a draft whose lines lack these numbers

abbrev pub repairs_in : Entry → (lacks : List Missing) → RepairAnswer → List UnreadLine → Json
repairs_in entry lacks answer unread = if has_event entry.finding then answer_object entry.record lacks answer unread else no_game_object unread

abbrev pub repairs_of : Result Entry ReadFault → (lacks : List Missing) → RepairAnswer → List UnreadLine → Json
repairs_of (Ok entry) lacks answer unread = repairs_in entry lacks answer unread
repairs_of (Err fault) lacks answer unread = bad_object fault answer.of_line

-- the repaired sheet, exactly if it is kept
abbrev pub IsRepairedOf : RepairedCase → Option (List ℕ) → Type 0
IsRepairedOf x text = MatchOption text (IsNoSheetKept x) (IsSheetKept x)

-- ---- a draft that is filled, or what its next line is about; or the first fault of the draft

abbrev pub filled_of : Result FilledDraft DraftFault → List UnreadLine → Json
filled_of (Ok filled) unread = fill_object filled unread
filled_of (Err fault) unread = draft.bad_object fault

abbrev pub filled_text : {Z : Type 0} → Result FilledDraft DraftFault → Option (Vec ℕ Z) → Option (List ℕ)
filled_text (Ok filled) kept = bytes_of kept
filled_text (Err fault) kept = None

abbrev pub next_of : Result DraftNext DraftFault → Json
next_of (Ok next) = next_object next
next_of (Err fault) = draft.bad_object fault

-- ---- every reply

abbrev pub object_of : Reply → Option Json
object_of (reply.Judged sheet) = Some (judged_of sheet.found sheet.unread.items)
object_of (reply.Explained x) = Some (case_object x.case x.explanation x.likely x.unread.items)
object_of (reply.Audited sheet) = Some (audited_of sheet.found sheet.unread.items)
object_of (reply.Boarded sheet) = Some (boarded_of sheet.found sheet.unread.items)
object_of (reply.Found found) = Some (plays_of found)
object_of (reply.Ruled ruled) = Some (ruled_of ruled)
object_of (reply.Checked words) = Some (checked_object words)
object_of (reply.Tidied d) = tidied_object d
object_of (reply.Paged x) = paged_object x
object_of (reply.Compared found) = Some (compared_of found)
object_of (reply.Repaired x) = Some (repairs_of x.case.read x.lacks.items x.answer x.unread.items)
object_of (reply.Annotated sheet) = annotated_object sheet
object_of (reply.Filled sheet) = Some (filled_of sheet.found sheet.unread.items)
object_of (reply.Next found) = Some (next_of found)
object_of (reply.NoDraft fault) = Some (draft.bad_object fault)

-- what the text is, if there is one; of that of a page, which people read, only that it is there
abbrev pub IsText : Reply → Option (List ℕ) → Type 0
IsText (reply.Judged sheet) text = text ≡ None
IsText (reply.Explained x) text = text ≡ None
IsText (reply.Audited sheet) text = IsAuditedOf sheet.found sheet.corrected text
IsText (reply.Boarded sheet) text = text ≡ None
IsText (reply.Found found) text = text ≡ None
IsText (reply.Ruled ruled) text = text ≡ None
IsText (reply.Checked words) text = text ≡ None
IsText (reply.Tidied d) text = text ≡ tidied_text d
IsText (reply.Paged x) text = is_some text ≡ has_sheet x.case.read
IsText (reply.Compared found) text = IsComparedText found text
IsText (reply.Repaired x) text = IsRepairedOf x text
IsText (reply.Annotated sheet) text = IsAnnotatedText sheet text
IsText (reply.Filled sheet) text = text ≡ filled_text sheet.found sheet.kept
IsText (reply.Next found) text = text ≡ None
IsText (reply.NoDraft fault) text = text ≡ None

-- ---- what a command writes

-- an object and an LF, with a text beside it if there is one; or a text alone
abbrev pub IsShownAs : Option Json → Option (List ℕ) → Printed → Type 0
IsShownAs (Some tree) text printed = (printed.report.items ≡ json_line tree) × (bytes_of printed.kept ≡ text)
IsShownAs None (Some text) printed = (printed.report.items ≡ text) × (printed.kept ≡ None)
IsShownAs None None printed = ⊥

-- a reply as a report for programs
pub record IsInObject (reported : Reply) (printed : Printed) : Type 0 where
  pub text : Option (List ℕ)
  pub is_text : IsText reported text
  pub shown : IsShownAs (object_of reported) text printed
