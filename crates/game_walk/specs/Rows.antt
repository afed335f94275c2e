-- What a row says about an event: the tally of the game after it.
use Rattle.std.specs.Prelude.{◌≡◌, ℕ, ◌+◌, List, slice_get, length, Some}
use Rattle.std.specs.List.{list_all}
use Rattle.ref_tiles.specs.declared.rulebook.Rules.{Rules}
use Rattle.lex_list.specs.Words.{is_listed}
use Rattle.gcg_read.specs.declared.events.Event.{Event}
use Rattle.game_turns.specs.Machines.{rules_of, state_of}
use Rattle.game_turns.specs.Tallies.{tally_at}
use Rattle.game_turns.specs.LatestEvents.{standing_words}
use Rattle.game_walk.specs.declared.rows.Row.{Row}
use Rattle.game_walk.specs.Numbers.{numbers_in}

-- A row is that of the event at a place, counted from 0: it has the numbers of the event as it is written and as it should be, and
-- the game after it is the tally at the next place.
pub record IsRowAt (rules : Rules) (list : List (List ℕ)) (written right : List Event) (place : ℕ) (row : Row) : Type 0 where
  pub own : Event
  pub event : Event
  pub stood : slice_get written place ≡ Some own
  pub stands : slice_get right place ≡ Some event
  pub own_numbers : row.written ≡ numbers_in own
  pub right_numbers : row.right ≡ numbers_in event
  pub by : rules_of row.following ≡ rules
  pub following : state_of row.following ≡ tally_at rules right (place + 1)
  pub listed : row.listed ≡ list_all (is_listed list) (standing_words (tally_at rules right (place + 1)).latest)

-- there is a row for each event before a place
pub record AreRowsTo (rules : Rules) (list : List (List ℕ)) (written right : List Event) (end : ℕ) (rows : List Row) : Type 0 where
  pub as_many : length rows ≡ end
  pub each : (place : ℕ) (row : Row) → slice_get rows place ≡ Some row → IsRowAt rules list written right place row

-- there is a row for each event of a record, whatever numbers it had before
pub record HaveRows (rules : Rules) (list : List (List ℕ)) (events : List Event) (rows : List Row) : Type 0 where
  pub written : List Event
  pub are : AreRowsTo rules list written events (length events) rows
