-- The text that a command writes in addition to its report, made of its reply: a corrected record, a merged one, a repaired sheet.
use Rattle.std.specs.Prelude.{◌≡◌, ◌⊎◌, ◌&&◌, ℕ, not, Bool, true, false, List, Result, Ok, Err}
use Rattle.gcg_read.specs.declared.faults.ReadFault.{ReadFault}
use Rattle.gcg_read.specs.declared.records.Record.{Record}
use Rattle.gcg_write.specs.Normal.{normal_of}
use Rattle.gcg_numbers.specs.Numbers.{text_with}
use Rattle.engine_stages.specs.declared.decisions.Decision.{Decision}
use Rattle.game_case.specs.declared.entries.Entry.{Entry}
use Rattle.game_case.specs.declared.findings.Finding.{Finding}
use Rattle.game_case.specs.declared.findings.Finding.TheVariants as finding
use Rattle.sheet_audit.specs.declared.answers.AuditAnswer.{AuditAnswer}
use Rattle.sheet_audit.specs.Standing.{is_written}
use Rattle.compare_answers.specs.declared.found.WhyNotMerged.{WhyNotMerged}
use Rattle.repair_rewrites.specs.Kept.{IsRepairedText, IsNoRepairedText}
use Rattle.reply_answers.specs.declared.audited.AuditedSheet.{AuditedSheet}
use Rattle.reply_answers.specs.declared.compared.SheetsFound.{SheetsFound}
use Rattle.reply_answers.specs.declared.compared.SheetsFound.TheVariants as sheets
use Rattle.reply_answers.specs.declared.repaired.RepairedCase.{RepairedCase}

-- ---- the corrected record of an audit

-- whether a record has an event
abbrev pub has_event : Finding → Bool
has_event finding.NoGame = false
has_event (finding.Legal complete) = true
has_event (finding.Illegal line fault) = true
has_event finding.Unsettled = true

-- it is kept if it is requested and is to be written, and the record has an event
abbrev pub is_corrected_of : (corrected : Bool) → Result AuditAnswer Decision → Bool
is_corrected_of corrected (Ok a) = has_event a.audit.entry.finding && (corrected && is_written a)
is_corrected_of corrected (Err d) = false

abbrev pub is_corrected : AuditedSheet → Bool
is_corrected sheet = is_corrected_of sheet.corrected sheet.found

-- the sheet with the right numbers, and no other byte changed
abbrev pub IsCorrectedText : AuditAnswer → (text : List ℕ) → Type 0
IsCorrectedText a text = text ≡ text_with a.audit.entry.record.events a.audit.text.items

abbrev pub IsCorrectedOf : Result AuditAnswer Decision → (text : List ℕ) → Type 0
IsCorrectedOf (Ok a) text = IsCorrectedText a text
IsCorrectedOf (Err d) text = ⊥

-- ---- the merged record of two sheets

abbrev pub has_merged : Result Record WhyNotMerged → Bool
has_merged (Ok game) = true
has_merged (Err why) = false

-- it is kept if it is requested and there is one
abbrev pub is_merged : SheetsFound → Bool
is_merged (sheets.Both both) = both.merged && has_merged both.answer.merged
is_merged (sheets.FirstBad why) = false
is_merged (sheets.SecondBad why) = false

-- its normal form
abbrev pub IsNormalForm : Result Record WhyNotMerged → (text : List ℕ) → Type 0
IsNormalForm (Ok game) text = text ≡ normal_of game
IsNormalForm (Err why) text = ⊥

abbrev pub IsMergedText : SheetsFound → (text : List ℕ) → Type 0
IsMergedText (sheets.Both both) text = IsNormalForm both.answer.merged text
IsMergedText (sheets.FirstBad why) text = ⊥
IsMergedText (sheets.SecondBad why) text = ⊥

-- ---- the repaired sheet, which `repair_rewrites` defines

-- whether a text is a record without an event
abbrev pub has_nothing : Result Entry ReadFault → Bool
has_nothing (Ok entry) = not (has_event entry.finding)
has_nothing (Err fault) = false

-- it is kept if it is requested and there is one
abbrev pub IsSheetKept : RepairedCase → (kept : List ℕ) → Type 0
IsSheetKept x kept = (x.asked ≡ true) × IsRepairedText x.case x.answer.faulty x.answer.of_line kept

-- none is kept: it is not requested, or there is no event or no such sheet
abbrev pub IsNoSheetKept : RepairedCase → Type 0
IsNoSheetKept x = (x.asked ≡ false) ⊎ (has_nothing x.case.read ≡ true) ⊎ IsNoRepairedText x.case x.answer.faulty x.answer.of_line
