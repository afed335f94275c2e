-- A board that follows a record, together with the state of its game.
use Rattle.std.specs.Prelude.{◌≡◌, ℕ, List}
use Rattle.ref_tiles.specs.declared.rulebook.Rules.{Rules}
use Rattle.ref_play.specs.Placements.{HasTiles}
use Rattle.gcg_read.specs.declared.events.Event.{Event}
use Rattle.game_turns.specs.declared.machine.Machine.{Machine}
use Rattle.game_turns.specs.Machines.{rules_of, state_of}
use Rattle.game_turns.specs.Tallies.{State, LatestPlay, played, tally_at}
use Rattle.game_notes.specs.declared.following.Follow.{Follow}
use Rattle.game_notes.specs.Following.{board_of, Follows}

-- The board is that of the state, its cross-sets are right for it, and if the latest event is a play, its tiles lie there.
pub record StandsBeside (rules : Rules) (words : List (List ℕ)) (s : State) (follow : Follow) : Type 0 where
  pub board : board_of follow ≡ s.board
  pub follows : Follows rules words follow
  pub latest : (p : LatestPlay) → s.latest ≡ played p → HasTiles s.board p.tiles

-- A machine by these rules took the events before a place of a record, from 0, and the board is that of its state.
pub record StandAt (rules : Rules) (words : List (List ℕ)) (events : List Event) (place : ℕ) (machine : Machine) (follow : Follow) : Type 0 where
  pub own : rules_of machine ≡ rules
  pub state : state_of machine ≡ tally_at rules events place
  pub beside : StandsBeside rules words (state_of machine) follow
