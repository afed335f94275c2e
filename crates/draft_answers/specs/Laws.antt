-- Laws of drafts that are filled.
use Rattle.std.specs.Prelude.{◌≡◌, ℕ, List, Ok}
use Rattle.ref_tiles.specs.declared.rulebook.Rules.{Rules}
use Rattle.gcg_read.specs.declared.records.Record.{Record}
use Rattle.gcg_read.specs.Records.{record_of}
use Rattle.sheet_audit.specs.Answers.{IsAuditAnswer}
use Rattle.draft_answers.specs.declared.filled.FilledDraft.{FilledDraft}
use Rattle.draft_answers.specs.Filled.{IsFilled}

-- what is found of a draft that is a record is what `audit` finds of the record
abbrev pub FindsWhatAuditFinds : Type 0
FindsWhatAuditFinds =
    (rules : Rules) (list : List (List ℕ)) (text : List ℕ) (r : Record) (f : FilledDraft) → record_of text ≡ Ok r → IsFilled rules list text f → IsAuditAnswer rules list text f.answer
