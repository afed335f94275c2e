-- A walk over a record.
use Rattle.std.specs.Prelude.{◌≡◌, ℕ, List, None}
use Rattle.ref_tiles.specs.declared.rulebook.Rules.{Rules}
use Rattle.gcg_read.specs.declared.events.Event.{Event}
use Rattle.game_turns.specs.Machines.{rules_of, state_of}
use Rattle.game_turns.specs.Tallies.{tally_at}
use Rattle.game_turns.specs.Places.{AreAllowedTo}
use Rattle.game_walk.specs.declared.walking.Walk.{Walk}
use Rattle.game_walk.specs.Refusals.{IsReportedRefusal, EndsAt}
use Rattle.game_walk.specs.Rows.{AreRowsTo, HaveRows}

-- A walk over events as they are written, together with the same events with their right numbers. It has a row for each event up to
-- where the correction ends, and names the first event that is refused as it is written; if none is, nothing is changed.
pub record IsWalk (rules : Rules) (list : List (List ℕ)) (written right : List Event) (walk : Walk) : Type 0 where
  pub end : ℕ
  pub allowed : AreAllowedTo rules list right end
  pub by : rules_of walk.start ≡ rules
  pub start : state_of walk.start ≡ tally_at rules right 0
  pub rows : AreRowsTo rules list written right end walk.rows.items
  pub refused : IsReportedRefusal rules list written walk.refused
  pub ends : EndsAt rules list written right end walk.stopped
  pub unchanged : walk.refused ≡ None → (right ≡ written) × (walk.stopped ≡ None)

-- a walk over events, whatever their right numbers are
pub record IsWalkOf (rules : Rules) (list : List (List ℕ)) (written : List Event) (walk : Walk) : Type 0 where
  pub right : List Event
  pub is : IsWalk rules list written right walk

-- a walk that went through all events of a record
pub record GoesThrough (rules : Rules) (list : List (List ℕ)) (events : List Event) (walk : Walk) : Type 0 where
  pub start : state_of walk.start ≡ tally_at rules events 0
  pub rows : HaveRows rules list events walk.rows.items
