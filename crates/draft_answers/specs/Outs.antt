-- The record that a draft makes.
use Rattle.std.specs.Prelude.{◌≡◌, ◌≤◌, ◌&&◌, ℕ, nat_lt, Bool, List, length, None, is_none, Ok}
use Rattle.ref_tiles.specs.declared.rulebook.Rules.{Rules}
use Rattle.gcg_read.specs.declared.events.Event.{Event}
use Rattle.gcg_read.specs.declared.records.Record.{Record}
use Rattle.gcg_read.specs.Records.{record_of, most_bytes}
use Rattle.game_corrections.specs.Corrections.{IsCorrection}
use Rattle.sheet_audit.specs.Standing.{is_written}
use Rattle.gcg_drafts.specs.Texts.{completed_text}
use Rattle.draft_answers.specs.declared.filled.FilledDraft.{FilledDraft}
use Rattle.draft_answers.specs.Filled.{IsFilled}

-- Whether the record of a draft is to be written: the rules refuse no line of it, no racks are ruled out, no bonus or penalty was found that would
-- explain numbers that are wrong, and it has an event.
abbrev pub is_out : FilledDraft → Bool
is_out f = is_none f.stopped && (is_written f.answer && nat_lt 0 (length f.answer.audit.entry.record.events))

-- The bytes are a record: the only one with the players and the events of the draft that the rules allow, with the scores of challenges and
-- penalties as they are written.
pub record IsOnlyRecord (rules : Rules) (list : List (List ℕ)) (text out : List ℕ) : Type 0 where
  pub drafted : Record
  pub means : record_of (completed_text text) ≡ Ok drafted
  pub right : Record
  pub reads : record_of out ≡ Ok right
  pub players : right.players ≡ drafted.players
  pub is : IsCorrection rules list drafted.events right.events
  pub only : (other : List Event) → IsCorrection rules list drafted.events other → other ≡ right.events

-- The bytes are that of each draft that is filled so, if its correction does not stop and they are no longer than a record may be.
abbrev pub IsRecordOfDraft : FilledDraft → (out : List ℕ) → Type 0
IsRecordOfDraft f out =
    (rules : Rules) (list : List (List ℕ)) (text : List ℕ) → IsFilled rules list text f → f.stopped ≡ None → length out ≤ most_bytes → IsOnlyRecord rules list text out
