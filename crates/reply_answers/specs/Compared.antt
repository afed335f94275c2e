-- What is found of two sheets.
use Rattle.std.specs.Prelude.{◌≡◌, ◌||◌, ℕ, Bool, true, false, List, [], Option, Some, None, Result, Ok, Err}
use Rattle.ref_tiles.specs.declared.rulebook.Rules.{Rules}
use Rattle.gcg_read.specs.declared.records.Record.{Record}
use Rattle.gcg_read.specs.Records.{record_of}
use Rattle.gcg_about.specs.Encodings.{encoding_of}
use Rattle.gcg_unread.specs.Lines.{unread_of}
use Rattle.gcg_drafts.specs.declared.drafts.Draft.{Draft}
use Rattle.gcg_drafts.specs.declared.missing.Missing.{Missing}
use Rattle.gcg_drafts.specs.Drafts.{IsDraft}
use Rattle.draft_answers.specs.Filled.{IsNoDraft}
use Rattle.draft_answers.specs.Filling.{has_missing}
use Rattle.compare_alignments.specs.declared.lacking.Lacks.{Lacks}
use Rattle.compare_answers.specs.declared.answers.ComparisonAnswer.{ComparisonAnswer}
use Rattle.compare_answers.specs.Answers.{IsComparisonAnswer}
use Rattle.reply_answers.specs.declared.compared.ReadSheet.{ReadSheet}
use Rattle.reply_answers.specs.declared.compared.BadSheet.{BadSheet}
use Rattle.reply_answers.specs.declared.compared.BadSheet.TheVariants as bad
use Rattle.reply_answers.specs.declared.compared.SheetsFound.{SheetsFound}
use Rattle.reply_answers.specs.declared.compared.SheetsFound.TheVariants as sheets

-- the record of a text with at least one event
pub record HasEvents (text : List ℕ) (r : Record) : Type 0 where
  pub means : record_of text ≡ Ok r
  pub events : r.events ≡ [] → ⊥

-- a text is a record without an event
pub record HasNoEvent (text : List ℕ) : Type 0 where
  pub written : Record
  pub means : record_of text ≡ Ok written
  pub none : written.events ≡ []

-- the draft that a text is, with at least one event: its record, and what its lines lack
pub record IsDraftRead (text : List ℕ) (r : Record) (lacks : List Missing) : Type 0 where
  pub draft : Draft
  pub is : IsDraft text draft
  pub events : draft.record.events ≡ [] → ⊥
  pub game : r ≡ draft.record
  pub lacking : lacks ≡ draft.missing.items

-- a text is a draft without an event
pub record IsDraftOfNothing (text : List ℕ) : Type 0 where
  pub draft : Draft
  pub is : IsDraft text draft
  pub none : draft.record.events ≡ []

-- a text has nothing to compare, for this reason
abbrev pub IsBadSheet : (text : List ℕ) → BadSheet → Type 0
IsBadSheet text (bad.NoRecord fault) = record_of text ≡ Err fault
IsBadSheet text (bad.NoDraft fault) = ⊥
IsBadSheet text (bad.NoEvent lines) = HasNoEvent text × (lines.items ≡ unread_of text)

-- the same of a text that is to be a draft
abbrev pub IsBadDraft : (text : List ℕ) → BadSheet → Type 0
IsBadDraft text (bad.NoRecord fault) = ⊥
IsBadDraft text (bad.NoDraft fault) = IsNoDraft text fault
IsBadDraft text (bad.NoEvent lines) = IsDraftOfNothing text × (lines.items ≡ unread_of text)

-- the record of a text, or why it has nothing to compare
abbrev pub IsSheetRead : (text : List ℕ) → Result Record BadSheet → Type 0
IsSheetRead text (Ok r) = HasEvents text r
IsSheetRead text (Err why) = IsBadSheet text why

-- the record of a text, or that of the draft, if the text is to be one; no number is missing in a record
abbrev pub IsRead : (draft : Bool) → (text : List ℕ) → Record → (lacks : List Missing) → Type 0
IsRead true text r lacks = IsDraftRead text r lacks
IsRead false text r lacks = HasEvents text r × (lacks ≡ [])

abbrev pub IsBad : (draft : Bool) → (text : List ℕ) → BadSheet → Type 0
IsBad true text why = IsBadDraft text why
IsBad false text why = IsBadSheet text why

abbrev pub IsSheetReadAs : (draft : Bool) → (text : List ℕ) → Result ReadSheet BadSheet → Type 0
IsSheetReadAs draft text (Ok r) = IsRead draft text r.game r.lacks.items
IsSheetReadAs draft text (Err why) = IsBad draft text why

-- what the lines of two sheets lack, if a number is missing on one of them
abbrev pub AreLacks : (first second : List Missing) → Option Lacks → Type 0
AreLacks first second None = (has_missing first || has_missing second) ≡ false
AreLacks first second (Some l) = ((has_missing first || has_missing second) ≡ true) × (l.first.items ≡ first) × (l.second.items ≡ second)

-- the comparison of two texts, if both have events
pub record AreCompared (draft : Bool) (rules : Rules) (list : List (List ℕ)) (first second : List ℕ) (a : ComparisonAnswer) : Type 0 where
  pub one : Record
  pub other : Record
  pub of_one : List Missing
  pub of_other : List Missing
  pub is_one : IsRead draft first one of_one
  pub is_other : IsRead draft second other of_other
  pub lacks : Option Lacks
  pub are : AreLacks of_one of_other lacks
  pub answer : IsComparisonAnswer rules list one other lacks a

-- What is found of two texts: the comparison of their records, or of their drafts, if both have events; or which of them does not, the first if neither
-- does.
abbrev pub IsComparedOf : (draft : Bool) → Rules → (list : List (List ℕ)) → (first second : List ℕ) → (merged : Bool) → SheetsFound → Type 0
IsComparedOf draft rules list first second merged (sheets.Both both) =
    AreCompared draft rules list first second both.answer × (both.encoding ≡ encoding_of first) × (both.merged ≡ merged)
IsComparedOf draft rules list first second merged (sheets.FirstBad why) = IsBad draft first why
IsComparedOf draft rules list first second merged (sheets.SecondBad why) =
    (one : Record) × (of_one : List Missing) × IsRead draft first one of_one × IsBad draft second why
