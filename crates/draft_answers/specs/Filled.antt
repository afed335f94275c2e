-- A draft that is filled: its missing numbers are the right ones, and its written ones are compared with them.
use Rattle.std.specs.Prelude.{◌≡◌, ◌⊎◌, ℕ, ◌<◌, ◌≤◌, nat_lt, Bool, true, false, List, length, Option, Some, None, Result, Ok, Err}
use Rattle.std.specs.List.{filter}
use Rattle.ref_tiles.specs.declared.rulebook.Rules.{Rules}
use Rattle.gcg_read.specs.declared.events.Event.{Event}
use Rattle.gcg_read.specs.declared.faults.Why.TheVariants as why
use Rattle.gcg_read.specs.declared.faults.ReadFault.{ReadFault}
use Rattle.gcg_read.specs.declared.records.Record.{Record}
use Rattle.gcg_read.specs.Records.{record_of, most_bytes}
use Rattle.game_corrections.specs.Corrections.{IsCorrection, KeepPoints, StopsAt}
use Rattle.game_corrections.specs.declared.wrong_numbers.WrongNumber.{WrongNumber}
use Rattle.game_corrections.specs.declared.wrong_numbers.WrongNumber.TheVariants as found
use Rattle.game_walk.specs.declared.refusals.Refusal.{Refusal}
use Rattle.game_case.specs.declared.audits.Audit.{Audit}
use Rattle.sheet_audit.specs.declared.answers.AuditAnswer.{AuditAnswer}
use Rattle.sheet_audit.specs.declared.reported.ReportedNumber.{ReportedNumber}
use Rattle.sheet_audit.specs.declared.reported.ReportedNumber.TheVariants as shown
use Rattle.sheet_audit.specs.Answers.{IsAuditAnswer}
use Rattle.gcg_drafts.specs.declared.drafts.Draft.{Draft}
use Rattle.gcg_drafts.specs.Drafts.{IsDraft}
use Rattle.gcg_drafts.specs.declared.missing.Missing.{Missing}
use Rattle.gcg_drafts.specs.Texts.{completed_text, missing_in}
use Rattle.draft_answers.specs.declared.faults.DraftFault.{DraftFault}
use Rattle.draft_answers.specs.declared.filled.FilledDraft.{FilledDraft}
use Rattle.draft_answers.specs.declared.making.DraftSheet.{DraftSheet}
use Rattle.draft_answers.specs.Faults.{reported_fault}
use Rattle.draft_answers.specs.Filling.{has_missing, filled_events, sheet_of}

-- ---- the correction

-- The events of a draft with right numbers: its correction, or as far as there is one. It stops at a line that the rules refuse with any numbers.
abbrev pub IsRighted : Rules → (list : List (List ℕ)) → (written right : List Event) → Option Refusal → Type 0
IsRighted rules list written right None = IsCorrection rules list written right
IsRighted rules list written right (Some refusal) = StopsAt rules list written right refusal.line refusal.why

-- events that are filled: those that are written, with the right numbers in the place of those that are missing
pub record AreFilled (rules : Rules) (list : List (List ℕ)) (lacks : List Missing) (written new : List Event) (stopped : Option Refusal) : Type 0 where
  pub right : List Event
  pub righted : IsRighted rules list written right stopped
  pub points : KeepPoints written right
  pub is : new ≡ filled_events lacks written right

-- ---- what is reported of the numbers

-- whether a wrong number is on a line before this one
abbrev pub is_before : (line : ℕ) → WrongNumber → Bool
is_before line (found.Score own written right) = nat_lt own line
is_before line (found.Sum own written sum right) = nat_lt own line
is_before line (found.Total player written right) = false

abbrev pub is_reported_before : (line : ℕ) → ReportedNumber → Bool
is_reported_before line (shown.Score place own player written right) = nat_lt own line
is_reported_before line (shown.Sum place own player written sum right) = nat_lt own line
is_reported_before line (shown.Total player written right) = false

-- the same audit, of which only the wrong numbers before a line are reported
pub record IsCutAudit (line : ℕ) (whole cut : Audit) : Type 0 where
  pub text : cut.text.items ≡ whole.text.items
  pub wrong : cut.wrong.items ≡ filter (is_before line) whole.wrong.items
  pub entry : cut.entry ≡ whole.entry
  pub ahead : cut.ahead ≡ whole.ahead
  pub written : cut.written ≡ whole.written

pub record IsCutAnswer (line : ℕ) (whole cut : AuditAnswer) : Type 0 where
  pub audit : IsCutAudit line whole.audit cut.audit
  pub numbers : cut.numbers.items ≡ filter (is_reported_before line) whole.numbers.items
  pub amount : cut.amount ≡ None

-- an answer to an audit of a sheet, reported up to a line
pub record IsAnswerBefore (line : ℕ) (rules : Rules) (list : List (List ℕ)) (sheet : List ℕ) (a : AuditAnswer) : Type 0 where
  pub whole : AuditAnswer
  pub is : IsAuditAnswer rules list sheet whole
  pub cut : IsCutAnswer line whole a

-- What `audit` finds on the sheet. If the correction of a draft that lacks a number stops, then from that line on it is not known what is wrong.
abbrev pub IsAnswerOf : (stopped : Option Refusal) → (lacks : Bool) → Rules → (list : List (List ℕ)) → (sheet : List ℕ) → AuditAnswer → Type 0
IsAnswerOf (Some refusal) true rules list sheet a = IsAnswerBefore refusal.line rules list sheet a
IsAnswerOf (Some refusal) false rules list sheet a = IsAuditAnswer rules list sheet a
IsAnswerOf None lacks rules list sheet a = IsAuditAnswer rules list sheet a

-- ---- the whole

-- what a draft is: a record, which of its numbers are missing, and its correction as far as there is one
pub record IsDrafted (rules : Rules) (list : List (List ℕ)) (text : List ℕ) (lacks : List Missing) (stopped : Option Refusal) (sheet : List ℕ) : Type 0 where
  pub drafted : Record
  pub means : record_of (completed_text text) ≡ Ok drafted
  pub missing : lacks ≡ missing_in text
  pub right : List Event
  pub righted : IsRighted rules list drafted.events right stopped
  pub points : KeepPoints drafted.events right
  pub is : sheet ≡ sheet_of text lacks drafted.events right

-- a draft that is filled: the sheet that it makes, audited
pub record IsFilled (rules : Rules) (list : List (List ℕ)) (text : List ℕ) (f : FilledDraft) : Type 0 where
  pub sheet : List ℕ
  pub drafted : IsDrafted rules list text f.lacks.items f.stopped sheet
  pub answer : IsAnswerOf f.stopped (has_missing f.lacks.items) rules list sheet f.answer

-- the text is no draft, and this is its first fault
pub record IsNoDraft (text : List ℕ) (f : DraftFault) : Type 0 where
  pub fault : ReadFault
  pub fails : record_of (completed_text text) ≡ Err fault
  pub is : f ≡ reported_fault text fault

-- the fault of a draft whose sheet is longer than a record may be
abbrev pub too_long : DraftFault
too_long = record { fault = record { line = 0; why = why.TooLong }; amiss = None }

-- a draft whose sheet is that long
pub record IsTooLong (rules : Rules) (list : List (List ℕ)) (text : List ℕ) (f : DraftFault) : Type 0 where
  pub fault : f ≡ too_long
  pub lacks : List Missing
  pub stopped : Option Refusal
  pub sheet : List ℕ
  pub drafted : IsDrafted rules list text lacks stopped sheet
  pub long : most_bytes < length sheet

abbrev pub IsFillOf : Rules → (list : List (List ℕ)) → (text : List ℕ) → Result FilledDraft DraftFault → Type 0
IsFillOf rules list text (Ok f) = IsFilled rules list text f
IsFillOf rules list text (Err f) = IsNoDraft text f ⊎ IsTooLong rules list text f

-- ---- the draft alone

-- the draft that a text is, or the first fault of a text that is none
abbrev pub IsDraftIn : (text : List ℕ) → Result Draft DraftFault → Type 0
IsDraftIn text (Ok d) = IsDraft text d
IsDraftIn text (Err f) = IsNoDraft text f

-- ---- the sheet alone

-- the sheet that a draft makes, however long it is, or the first fault of a text that is no draft
abbrev pub IsSheetIn : Rules → (list : List (List ℕ)) → (text : List ℕ) → Result DraftSheet DraftFault → Type 0
IsSheetIn rules list text (Ok s) = IsDrafted rules list text s.lacks.items s.stopped s.text.items
IsSheetIn rules list text (Err f) = IsNoDraft text f

-- The sheet that a draft makes, which is no longer than a record may be. It is what a command goes on with that takes a draft.
pub record IsDraftSheet (rules : Rules) (list : List (List ℕ)) (text : List ℕ) (s : DraftSheet) : Type 0 where
  pub drafted : IsDrafted rules list text s.lacks.items s.stopped s.text.items
  pub short : length s.text.items ≤ most_bytes

-- why there is none
abbrev pub IsRefusedDraft : Rules → (list : List (List ℕ)) → (text : List ℕ) → DraftFault → Type 0
IsRefusedDraft rules list text f = IsNoDraft text f ⊎ IsTooLong rules list text f

abbrev pub IsSheetOf : Rules → (list : List (List ℕ)) → (text : List ℕ) → Result DraftSheet DraftFault → Type 0
IsSheetOf rules list text (Ok s) = IsDraftSheet rules list text s
IsSheetOf rules list text (Err f) = IsRefusedDraft rules list text f
