-- The rows of a score sheet.
use Rattle.std.specs.Borrow.{Bor}
use Rattle.std.specs.Prelude.{◌≡◌, ℕ, ℤ, ◌+◌, ◌+ℤ◌, Bool, true, false, List, [], length, slice_get, Option, Some, None, if◌then◌else◌}
use Rattle.std.specs.Ordering.{int_eq}
use Rattle.ref_tiles.specs.declared.rulebook.Rules.{Rules}
use Rattle.gcg_read.specs.declared.events.Event.{Event}
use Rattle.game_turns.specs.declared.machine.Machine.{Machine}
use Rattle.game_turns.specs.LatestEvents.{standing_words}
use Rattle.game_turns.specs.Machines.{state_of}
use Rattle.game_turns.specs.Places.{AreAllowedTo}
use Rattle.game_turns.specs.Tallies.{tally_at, withdraws}
use Rattle.game_walk.specs.declared.numbers.Numbers.{Numbers}
use Rattle.game_walk.specs.declared.refusals.Stop.{Stop}
use Rattle.game_walk.specs.Numbers.{numbers_in}
use Rattle.game_corrections.specs.WrongNumbers.{had_before, due, is_right_sum}
use Rattle.game_bests.specs.declared.bests.TurnBest.{TurnBest}
use Rattle.game_turns.specs.declared.unlisted.SpelledWord.{SpelledWord}
use Rattle.game_bests.specs.Bests.{IsTurnBest}
use Rattle.sheet_scores.specs.Gains.{given_by}
use Rattle.game_turns.specs.Unlisted.{letters_in, unlisted_of}
use Rattle.sheet_scores.specs.declared.rows.SheetRow.{SheetRow}
use Rattle.sheet_scores.specs.Unders.{known_under}

-- what a number should be, if it is wrong
abbrev pub should_be : (written right : ℤ) → Option ℤ
should_be written right = if int_eq written right then None else Some right

-- the right total of an event, if it and those before it are allowed
abbrev pub known_if : (allowed : Bool) → (right : ℤ) → Option ℤ
known_if allowed right = if allowed then Some right else None

-- what the total of an event should be, if it is wrong
abbrev pub total_should_be : (had : ℤ) → (written : Event) → (right : Option ℤ) → Option ℤ
total_should_be had written right = if is_right_sum written.total (had +ℤ written.score) right then None else Some (due (had +ℤ written.score) right)

-- the numbers of an event for which a walk has no row: those with which it is refused, if the walk stops at it, and otherwise its
-- own
abbrev pub numbers_after : Option Stop → (is_next : Bool) → Event → Numbers
numbers_after None is_next e = numbers_in e
numbers_after (Some stop) true e = stop.numbers
numbers_after (Some stop) false e = numbers_in e

-- the score and the total of the event at a place
pub record HasNumbersAt (events : List Event) (place : ℕ) (numbers : Numbers) : Type 0 where
  pub event : Event
  pub stands : slice_get events place ≡ Some event
  pub own : numbers ≡ numbers_in event

-- the game before an event, if the rules allow those before it
abbrev pub IsBeforeAt : Rules → (list : List (List ℕ)) → List Event → (place : ℕ) → Option (Bor Machine) → Type 0
IsBeforeAt rules list events place None = AreAllowedTo rules list events place → ⊥
IsBeforeAt rules list events place (Some machine) = AreAllowedTo rules list events place × (state_of machine.now ≡ tally_at rules events place)

-- what is said of the best play of an event that gave `gave` points, by the state before it; nothing if the rules do not allow the events before
-- it
abbrev pub IsBestAt : Rules → (list : List (List ℕ)) → List Event → (place : ℕ) → Event → (gave : ℤ) → Option TurnBest → Type 0
IsBestAt rules list events place e gave None = AreAllowedTo rules list events place → ⊥
IsBestAt rules list events place e gave (Some best) = AreAllowedTo rules list events place × IsTurnBest rules list (tally_at rules events place) e gave best

-- Whether an event and those before it are allowed, and then the words of a play that stands which are not in the list.
abbrev pub IsNotedAt : Rules → (list : List (List ℕ)) → List Event → (place : ℕ) → (allowed : Bool) → List SpelledWord → Type 0
IsNotedAt rules list events place true unlisted =
    AreAllowedTo rules list events (place + 1) × (letters_in unlisted ≡ unlisted_of list (standing_words (tally_at rules events (place + 1)).latest))
IsNotedAt rules list events place false unlisted = (AreAllowedTo rules list events (place + 1) → ⊥) × (unlisted ≡ [])

-- A row is that of the event at a place, counted from 0, of the events as they are written; `right` are the same events with their right numbers.
-- It has what its numbers should be exactly if they are wrong: a total is if it is neither the player's last total and the score, as they are written,
-- nor the right one, which is known if the event is allowed. Its best play is that of the state before the event, by the right numbers of the
-- events before it, for a turn that gave its right score, and nothing if it is taken back; and it has what is on the squares of that play before the
-- event.
pub record IsSheetRowAt (rules : Rules) (list : List (List ℕ)) (written right : List Event) (place : ℕ) (row : SheetRow) : Type 0 where
  pub own : Event
  pub event : Event
  pub stood : slice_get written place ≡ Some own
  pub stands : slice_get right place ≡ Some event
  pub score : row.score ≡ should_be own.score event.score
  pub total : row.total ≡ total_should_be (had_before written own.player place) own (known_if row.allowed event.total)
  pub best : IsBestAt rules list right place event (given_by (withdraws (slice_get written (place + 1))) event.score) row.best
  pub under : row.under.items ≡ known_under (tally_at rules right place).board row.best
  pub noted : IsNotedAt rules list right place row.allowed row.unlisted.items
  pub taken_back : row.taken_back ≡ withdraws (slice_get written (place + 1))

-- there is a row for each event before a place, in their order
pub record AreSheetRows (rules : Rules) (list : List (List ℕ)) (written right : List Event) (end : ℕ) (rows : List SheetRow) : Type 0 where
  pub as_many : length rows ≡ end
  pub each : (place : ℕ) (row : SheetRow) → slice_get rows place ≡ Some row → IsSheetRowAt rules list written right place row
