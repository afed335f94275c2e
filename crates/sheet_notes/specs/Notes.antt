-- What is noted of the events of a record: their best plays, their words that are not in the list, and why the faulty one is refused.
use Rattle.std.specs.Prelude.{◌≡◌, ◌<◌, ◌≤◌, ℕ, min, true, false, List, [], length, drop, slice_get, Option, Some, None, Result, Ok, Err}
use Rattle.ref_tiles.specs.declared.tiles.Tile.{Tile}
use Rattle.ref_tiles.specs.declared.rulebook.Rules.{Rules}
use Rattle.gcg_read.specs.declared.events.Event.{Event}
use Rattle.gcg_read.specs.declared.faults.ReadFault.{ReadFault}
use Rattle.game_turns.specs.Places.{AreAllowedTo}
use Rattle.game_turns.specs.Tallies.{State, tally_at}
use Rattle.game_report.specs.BestPlays.{is_judged, full_rack}
use Rattle.game_answers.specs.declared.plays.ScoredPlay.{ScoredPlay}
use Rattle.game_answers.specs.Plays.{AreBestPlays}
use Rattle.game_walk.specs.declared.walking.Walk.{Walk}
use Rattle.game_walk.specs.Walks.{IsWalk}
use Rattle.sheet_scores.specs.declared.rows.SheetRow.{SheetRow}
use Rattle.sheet_scores.specs.Rows.{IsSheetRowAt}
use Rattle.game_case.specs.declared.entries.Entry.{Entry}
use Rattle.game_case.specs.declared.findings.Finding.{Finding}
use Rattle.game_case.specs.declared.findings.Finding.TheVariants as finding
use Rattle.game_case.specs.Explaining.{IsCaseOf}
use Rattle.explain_answers.specs.Openings.{place_of_fault}
use Rattle.explain_answers.specs.declared.events.Explanation.{Explanation}
use Rattle.explain_answers.specs.Explaining.{IsExplanation}
use Rattle.sheet_notes.specs.declared.sheets.EventNote.{EventNote}
use Rattle.sheet_notes.specs.declared.sheets.AnnotatedSheet.{AnnotatedSheet}

-- ---- the next best plays

-- the best `number` plays by a rack on a board, but for the first of them; none if the rack is not shown
abbrev pub AreNextBy : (number : ℕ) → Rules → (list : List (List ℕ)) → (board : List (Option Tile)) → Option (List ℕ) → List ScoredPlay → Type 0
AreNextBy number rules list board None plays = plays ≡ []
AreNextBy number rules list board (Some rack) plays = (all : List ScoredPlay) × AreBestPlays number rules list board rack all × (plays ≡ drop 1 all)

-- the same for an event by the state before it: for a turn by its whole rack, and none if it is not a turn
pub record AreNextPlays (number : ℕ) (rules : Rules) (list : List (List ℕ)) (s : State) (e : Event) (plays : List ScoredPlay) : Type 0 where
  pub turn : is_judged s.out e.kind ≡ true → AreNextBy number rules list s.board (full_rack s e) plays
  pub idle : is_judged s.out e.kind ≡ false → plays ≡ []

-- The same for the event at a place, if the rules allow those before it; up to 100 plays are asked for, and none comes after the best if only one
-- is.
pub record AreNextAt (number : ℕ) (rules : Rules) (list : List (List ℕ)) (right : List Event) (place : ℕ) (e : Event) (plays : List ScoredPlay) : Type 0 where
  pub known : 2 ≤ number → AreAllowedTo rules list right place → AreNextPlays (min number 100) rules list (tally_at rules right place) e plays
  pub unknown : (AreAllowedTo rules list right place → ⊥) → plays ≡ []
  pub alone : number < 2 → plays ≡ []

-- ---- notes

-- A note is that of the event at a place, counted from 0, of the events as they are written; `right` are the same events with their right numbers. It
-- has what the row of a score sheet says of the best play and of the words that are not in the list, and the next best plays by the rack that the line
-- shows.
pub record IsNoteAt (number : ℕ) (rules : Rules) (list : List (List ℕ)) (written right : List Event) (place : ℕ) (note : EventNote) : Type 0 where
  pub row : SheetRow
  pub of_row : IsSheetRowAt rules list written right place row
  pub best : note.best ≡ row.best
  pub unlisted : note.unlisted ≡ row.unlisted
  pub own : Event
  pub stood : slice_get written place ≡ Some own
  pub next : AreNextAt number rules list right place own note.next.items

-- there is one for each event before a place, in their order
pub record AreNotes (number : ℕ) (rules : Rules) (list : List (List ℕ)) (written right : List Event) (end : ℕ) (notes : List EventNote) : Type 0 where
  pub as_many : length notes ≡ end
  pub each : (place : ℕ) (note : EventNote) → slice_get notes place ≡ Some note → IsNoteAt number rules list written right place note

-- the place up to which events have notes: that of the faulty one, or the end
abbrev pub noted_to : List Event → (faulty : Option ℕ) → ℕ
noted_to events None = length events
noted_to events (Some place) = place

-- ---- a sheet

-- why the faulty line is refused, if there is one
abbrev pub IsRefusalExplained : Rules → (list : List (List ℕ)) → Entry → Finding → Option Explanation → Type 0
IsRefusalExplained rules list entry (finding.Illegal line fault) x = IsExplanation rules list entry None x
IsRefusalExplained rules list entry other x = x ≡ None

-- what is noted of a record, by what was found of it: notes of the events before the faulty one or of all, and why that one is refused
pub record AnnotatesEntry (number : ℕ) (rules : Rules) (list : List (List ℕ)) (entry : Entry) (notes : List EventNote) (refusal : Option Explanation) : Type 0 where
  pub right : List Event
  pub walk : Walk
  pub walked : IsWalk rules list entry.record.events right walk
  pub notes_are : AreNotes number rules list entry.record.events right (noted_to entry.record.events (place_of_fault entry.record.events entry.finding)) notes
  pub refusal_is : IsRefusalExplained rules list entry entry.finding refusal

-- the same for what was read from a text; nothing if that is not a record
abbrev pub AnnotatesRead : (number : ℕ) → Rules → (list : List (List ℕ)) → Result Entry ReadFault → (notes : List EventNote) → (refusal : Option Explanation) → Type 0
AnnotatesRead number rules list (Ok entry) notes refusal = AnnotatesEntry number rules list entry notes refusal
AnnotatesRead number rules list (Err fault) notes refusal = (notes ≡ []) × (refusal ≡ None)

-- the case of a text with what is noted of it
pub record IsAnnotatedSheet (number : ℕ) (rules : Rules) (list : List (List ℕ)) (text : List ℕ) (sheet : AnnotatedSheet) : Type 0 where
  pub of_text : IsCaseOf rules list text sheet.case
  pub noted : AnnotatesRead number rules list sheet.case.read sheet.notes.items sheet.refusal
