-- What is found of a draft, with the record that it makes.
use Rattle.std.specs.Prelude.{◌≡◌, ◌≤◌, ◌&&◌, ℕ, Bool, false, List, length, None, is_some, Result, Ok, Err, IfSome}
use Rattle.ref_tiles.specs.declared.rulebook.Rules.{Rules}
use Rattle.gcg_read.specs.Records.{most_bytes}
use Rattle.gcg_numbers.specs.Numbers.{text_with}
use Rattle.gcg_unread.specs.Lines.{unread_of}
use Rattle.draft_answers.specs.Filled.{IsFillOf}
use Rattle.draft_answers.specs.Outs.{is_out, IsOnlyRecord, IsRecordOfDraft}
use Rattle.draft_answers.specs.declared.faults.DraftFault.{DraftFault}
use Rattle.draft_answers.specs.declared.filled.FilledDraft.{FilledDraft}
use Rattle.reply_answers.specs.declared.drafted.FilledSheet.{FilledSheet}

-- whether the record of a draft is written: it is requested, and it is to be written
abbrev pub is_kept : (filled : Bool) → Result FilledDraft DraftFault → Bool
is_kept filled (Ok f) = filled && is_out f
is_kept filled (Err fault) = false

-- the text of that record: the one that the draft makes, of which no byte differs but those of numbers
pub record IsKept (f : FilledDraft) (out : List ℕ) : Type 0 where
  pub going : f.stopped ≡ None
  pub text : out ≡ text_with f.answer.audit.entry.record.events f.answer.audit.text.items
  pub again : IsRecordOfDraft f out

abbrev pub IsKeptOf : Result FilledDraft DraftFault → (out : List ℕ) → Type 0
IsKeptOf (Ok f) out = IsKept f out
IsKeptOf (Err fault) out = ⊥

-- a draft that is filled
pub record IsFilledSheet (rules : Rules) (list : List (List ℕ)) (draft : List ℕ) (filled : Bool) (sheet : FilledSheet) : Type 0 where
  pub found : IsFillOf rules list draft sheet.found
  pub asked : is_some sheet.kept ≡ is_kept filled sheet.found
  pub text : IfSome sheet.kept (λ out. IsKeptOf sheet.found out.items)
  -- it reads as the only record with the players and the events of the draft that the rules allow
  pub only : IfSome sheet.kept (λ out. length out.items ≤ most_bytes → IsOnlyRecord rules list draft out.items)
  pub lines : sheet.unread.items ≡ unread_of draft
