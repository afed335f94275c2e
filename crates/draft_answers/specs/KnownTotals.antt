-- The totals of a draft whose right numbers are not all known.
use Rattle.std.specs.Prelude.{◌≡◌, ◌⊎◌, ◌<◌, ◌≤◌, ◌&&◌, ℕ, ℤ, nat_le, Bool, true, false, List, [], length, slice_get, Option, Some, None, Result, Ok, Err}
use Rattle.ref_tiles.specs.declared.rulebook.Rules.{Rules}
use Rattle.gcg_read.specs.declared.events.Event.{Event}
use Rattle.gcg_read.specs.declared.records.Record.{Record}
use Rattle.gcg_read.specs.Records.{record_of, most_bytes}
use Rattle.gcg_numbers.specs.Numbers.{text_with}
use Rattle.game_board.specs.Places.{place_of_line}
use Rattle.game_corrections.specs.WrongNumbers.{had_before}
use Rattle.game_walk.specs.declared.refusals.Refusal.{Refusal}
use Rattle.gcg_drafts.specs.declared.missing.Missing.{Missing}
use Rattle.gcg_drafts.specs.Texts.{completed_text, missing_in}
use Rattle.draft_answers.specs.declared.faults.DraftFault.{DraftFault}
use Rattle.draft_answers.specs.declared.making.DraftSheet.{DraftSheet}
use Rattle.draft_answers.specs.Counting.{is_missing}
use Rattle.draft_answers.specs.Filling.{said, filled_events}
use Rattle.draft_answers.specs.Filled.{IsRighted, IsNoDraft, too_long}

-- the place of the line at which a correction stops, if it does
abbrev pub place_of_stop : List Event → (stopped : Option Refusal) → Option ℕ
place_of_stop events None = None
place_of_stop events (Some refusal) = place_of_line events refusal.line

-- whether the total of an event is neither written nor known: it is missing, and the correction stops there or before
abbrev pub is_unknown : (stop : Option ℕ) → List Missing → (place : ℕ) → Bool
is_unknown None lacks place = false
is_unknown (Some stop) lacks place = nat_le stop place && is_missing (said (slice_get lacks place))

-- an event with its total; or with what its player had before it, if it is not known
abbrev pub known_by : (unknown : Bool) → (had : ℤ) → Event → Event
known_by true had e = record e { total = had }
known_by false had e = e

-- the event at a place with the last total that is known
abbrev pub IsKnownAt : (stop : Option ℕ) → List Missing → (old new : List Event) → (place : ℕ) → Type 0
IsKnownAt stop lacks old new place =
    (e : Event) → slice_get old place ≡ Some e → slice_get new place ≡ Some (known_by (is_unknown stop lacks place) (had_before new e.player place) e)

-- The events before a place have it, and the others are as they were.
pub record AreKnownTo (stop : Option ℕ) (lacks : List Missing) (old new : List Event) (end : ℕ) : Type 0 where
  pub as_many : length new ≡ length old
  pub each : (place : ℕ) → place < end → IsKnownAt stop lacks old new place
  pub rest : (place : ℕ) → end ≤ place → slice_get new place ≡ slice_get old place

-- The same events, in which each player has the last total that is known.
pub record HaveKnownTotals (stop : Option ℕ) (lacks : List Missing) (old new : List Event) : Type 0 where
  pub as_many : length new ≡ length old
  pub each : (place : ℕ) → IsKnownAt stop lacks old new place

-- The sheet of a draft for its board, without words: the right numbers are in the place of those that are missing as far as they are known without
-- words, which is up to a challenge, or up to a line that the rules refuse with any numbers; and from there on a total that is missing is the last one
-- that is known.
pub record IsBoardSheet (rules : Rules) (text : List ℕ) (s : DraftSheet) : Type 0 where
  pub drafted : Record
  pub means : record_of (completed_text text) ≡ Ok drafted
  pub missing : s.lacks.items ≡ missing_in text
  pub right : List Event
  pub righted : IsRighted rules [] drafted.events right s.stopped
  pub filled : List Event
  pub are : filled ≡ filled_events s.lacks.items drafted.events right
  pub known : List Event
  pub totals : HaveKnownTotals (place_of_stop filled s.stopped) s.lacks.items filled known
  pub is : s.text.items ≡ text_with known (completed_text text)

-- such a sheet, if it is no longer than a record may be; or why there is none
abbrev pub IsNoBoardDraft : Rules → (text : List ℕ) → DraftFault → Type 0
IsNoBoardDraft rules text f = IsNoDraft text f ⊎ ((s : DraftSheet) × IsBoardSheet rules text s × (most_bytes < length s.text.items) × (f ≡ too_long))

abbrev pub IsBoardSheetOf : Rules → (text : List ℕ) → Result DraftSheet DraftFault → Type 0
IsBoardSheetOf rules text (Ok s) = IsBoardSheet rules text s × (length s.text.items ≤ most_bytes)
IsBoardSheetOf rules text (Err f) = IsNoBoardDraft rules text f
