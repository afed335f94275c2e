-- What is found of a text that is to be a draft: what is found of the sheet that the draft makes.
use Rattle.std.specs.Prelude.{◌≡◌, ◌&&◌, ℕ, Bool, true, false, List, [], Option, None, is_some, Result, Ok, Err}
use Rattle.ref_tiles.specs.declared.rulebook.Rules.{Rules}
use Rattle.gcg_read.specs.declared.events.Event.{Event}
use Rattle.gcg_read.specs.declared.faults.ReadFault.{ReadFault}
use Rattle.game_case.specs.declared.entries.Entry.{Entry}
use Rattle.draft_answers.specs.declared.faults.DraftFault.{DraftFault}
use Rattle.draft_answers.specs.declared.making.DraftSheet.{DraftSheet}
use Rattle.draft_answers.specs.Filled.{IsDraftSheet, IsRefusedDraft}
use Rattle.draft_answers.specs.Filling.{has_missing}
use Rattle.draft_answers.specs.KnownTotals.{IsBoardSheetOf, IsNoBoardDraft}
use Rattle.reply_answers.specs.declared.explained.ExplainedCase.{ExplainedCase}
use Rattle.reply_answers.specs.declared.read_sheets.ShownSheet.{ShownSheet}
use Rattle.reply_answers.specs.Explained.{IsExplainedCase}
use Rattle.reply_answers.specs.DraftFacts.{IsExplanationWithout}
use Rattle.reply_answers.specs.Given.{read_of}
use Rattle.reply_answers.specs.ReadSheets.{IsShownSheet}
use Rattle.reply_answers.specs.Repaired.{IsRepairedCase, IsRepairedDraft}
use Rattle.reply_answers.specs.declared.repaired.RepairedCase.{RepairedCase}

-- the events of a record that was read
abbrev pub events_of : Result Entry ReadFault → List Event
events_of (Ok entry) = entry.record.events
events_of (Err fault) = []

-- nothing, if something holds
abbrev pub unless : {A : Type 0} → Bool → Option A → Option A
unless true known = None
unless false known = known

-- What is reported of a draft: what is found of its sheet, but for what rests on numbers that are missing; and its lines as they are in the draft.
pub record IsReportedOf (draft : List ℕ) (s : DraftSheet) (found reported : ExplainedCase) : Type 0 where
  pub text : reported.case.text.items ≡ draft
  pub read : reported.case.read ≡ found.case.read
  pub walk : reported.case.walk ≡ found.case.walk
  pub line : reported.line ≡ found.line
  pub explanation : IsExplanationWithout (has_missing s.lacks.items) s.lacks.items (events_of found.case.read) found.explanation reported.explanation
  pub likely : reported.likely ≡ found.likely
  pub amount : reported.amount ≡ found.amount
  -- from the line on that the rules refuse with any numbers it is not known which are wrong
  pub wrong : reported.wrong ≡ unless (is_some s.stopped && has_missing s.lacks.items) found.wrong
  pub unread : reported.unread ≡ found.unread

-- The case of a record with what explains it or one of its lines; of a draft that of its sheet, for which no likely repair is looked for.
abbrev pub IsExplainedAs : (draft : Bool) → Rules → (list : List (List ℕ)) → (game : List ℕ) → (line : Option ℕ) → (likely lead : Bool) → ExplainedCase → Type 0
IsExplainedAs false rules list game line likely lead x = IsExplainedCase rules list (read_of game) line likely lead x
IsExplainedAs true rules list game line likely lead x =
    (s : DraftSheet) × (found : ExplainedCase) × IsDraftSheet rules list game s × IsExplainedCase rules list (read_of s.text.items) line false lead found × IsReportedOf game s found x

-- the board of a record, before a line if one is named; of a draft that of its sheet with the last totals that are known
abbrev pub IsShownAs : (draft : Bool) → Rules → (line : Option ℕ) → (game : List ℕ) → ShownSheet → Type 0
IsShownAs false rules line game x = IsShownSheet rules line game x
IsShownAs true rules line game x = (s : DraftSheet) × IsBoardSheetOf rules game (Ok s) × IsShownSheet rules line s.text.items x

-- A text that is to be a draft is none, and this is its first fault.
abbrev pub IsNoDraftOf : (draft : Bool) → Rules → (list : List (List ℕ)) → (game : List ℕ) → DraftFault → Type 0
IsNoDraftOf false rules list game f = ⊥
IsNoDraftOf true rules list game f = IsRefusedDraft rules list game f

abbrev pub IsNoBoardOf : (draft : Bool) → Rules → (game : List ℕ) → DraftFault → Type 0
IsNoBoardOf false rules game f = ⊥
IsNoBoardOf true rules game f = IsNoBoardDraft rules game f

-- either of both
abbrev pub IsExplainedOf : (draft : Bool) → Rules → (list : List (List ℕ)) → (game : List ℕ) → (line : Option ℕ) → (likely lead : Bool) → Result ExplainedCase DraftFault → Type 0
IsExplainedOf draft rules list game line likely lead (Ok x) = IsExplainedAs draft rules list game line likely lead x
IsExplainedOf draft rules list game line likely lead (Err f) = IsNoDraftOf draft rules list game f

abbrev pub IsShownOf : (draft : Bool) → Rules → (line : Option ℕ) → (game : List ℕ) → Result ShownSheet DraftFault → Type 0
IsShownOf draft rules line game (Ok x) = IsShownAs draft rules line game x
IsShownOf draft rules line game (Err f) = IsNoBoardOf draft rules game f

-- The case of a record with what repairs it; of a draft that of its sheet with what repairs the draft.
abbrev pub IsRepairedAs : (draft : Bool) → Rules → (list : List (List ℕ)) → (game : List ℕ) → (number : Option ℕ) → (asked : Bool) → RepairedCase → Type 0
IsRepairedAs false rules list game number asked x = IsRepairedCase rules list (read_of game) number asked x
IsRepairedAs true rules list game number asked x = (s : DraftSheet) × IsDraftSheet rules list game s × IsRepairedDraft rules list s number asked x

abbrev pub IsRepairedOf : (draft : Bool) → Rules → (list : List (List ℕ)) → (game : List ℕ) → (number : Option ℕ) → (asked : Bool) → Result RepairedCase DraftFault → Type 0
IsRepairedOf draft rules list game number asked (Ok x) = IsRepairedAs draft rules list game number asked x
IsRepairedOf draft rules list game number asked (Err f) = IsNoDraftOf draft rules list game f
