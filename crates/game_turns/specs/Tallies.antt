-- The tally of a game at a place of its record: what the events before the place add up to. Each part is read from the list of
-- these events by itself.
use Rattle.std.specs.Prelude.{ℕ, ℤ, pos, ◌+◌, ◌+ℤ◌, min, ◌&&◌, ◌||◌, not, Bool, true, false, List, [], ◌∷◌, Option, Some, None, is_some, is_none, reverse, take, slice_get, if◌then◌else◌}
use Rattle.ref_tiles.specs.declared.tiles.Tile.{Tile}
use Rattle.ref_tiles.specs.declared.rulebook.Rules.{Rules}
use Rattle.ref_play.specs.declared.placed.Placed.{Placed}
use Rattle.ref_play.specs.Texts.{placement_of}
use Rattle.ref_play.specs.Words.{words_formed}
use Rattle.ref_play.specs.Scores.{score_of}
use Rattle.gcg_read.specs.Players.{other_seat}
use Rattle.gcg_read.specs.declared.events.Seat.{Seat}
use Rattle.gcg_read.specs.declared.events.Seat.TheVariants.{First, Second}
use Rattle.gcg_read.specs.declared.events.Event.{Event}
use Rattle.gcg_read.specs.declared.events.EventKind.{EventKind}
use Rattle.gcg_read.specs.declared.events.EventKind.TheVariants as kind
use Rattle.ref_board.specs.declared.directions.Dir.{Dir}
use Rattle.ref_tiles.specs.declared.symbols.Symbol.{Symbol}
use Rattle.game_turns.specs.declared.sides.Side.{Side}
use Rattle.game_turns.specs.declared.sides.Sides.{Sides}
use Rattle.game_turns.specs.Seats.{same_seat}
use Rattle.game_turns.specs.Standing.{Stood, is_withdraw, standing, waiting, board_at, bag_after, rack_at, out_after}

-- ---- kinds of events

abbrev pub is_play : EventKind → Bool
is_play (kind.Play at dir word) = true
is_play other = false

abbrev pub is_pass : EventKind → Bool
is_pass kind.Pass = true
is_pass other = false

abbrev pub is_time : EventKind → Bool
is_time kind.Time = true
is_time other = false

abbrev pub is_last_rack : EventKind → Bool
is_last_rack (kind.LastRack tiles) = true
is_last_rack other = false

-- Whether an event is a turn: a play that stands, a withdrawal, an exchange of either kind, or a pass. A pass after a player is out
-- is not a turn.
abbrev pub is_turn : (withdrawn : Bool) (out : Option Seat) → EventKind → Bool
is_turn withdrawn out (kind.Play at dir word) = not withdrawn
is_turn withdrawn out kind.Pass = is_none out
is_turn withdrawn out (kind.Exchange tiles) = true
is_turn withdrawn out (kind.ExchangeUnknown n) = true
is_turn withdrawn out kind.Withdraw = true
is_turn withdrawn out kind.Challenge = false
is_turn withdrawn out kind.Time = false
is_turn withdrawn out (kind.LastRack tiles) = false

-- ---- the parts of the tally

-- the player who is out
abbrev pub out_at : Rules → (withdrawn : Bool) (past : List Event) → Option Seat
out_at rules withdrawn past = out_after rules (standing withdrawn past)

-- a player's total: the sum of the scores of the player's events
abbrev pub total_at : Seat → (past : List Event) → ℤ
total_at seat [] = pos 0
total_at seat (e ∷ past) = if same_seat e.player seat then total_at seat past +ℤ e.score else total_at seat past

-- who has the next turn: either player before the first turn, otherwise the opponent of the player of the latest turn
abbrev pub mover_at : Rules → (withdrawn : Bool) (past : List Event) → Option Seat
mover_at rules withdrawn [] = None
mover_at rules withdrawn (e ∷ past) =
    if is_turn withdrawn (out_at rules (is_withdraw e.kind) past) e.kind then Some (other_seat e.player)
    else mover_at rules (is_withdraw e.kind) past

-- the number of turns since the latest play that stands
abbrev pub idle_turns : Rules → (withdrawn : Bool) (past : List Event) → ℕ
idle_turns rules withdrawn [] = 0
idle_turns rules withdrawn (e ∷ past) =
    if is_play e.kind && not withdrawn then 0
    else (if is_turn withdrawn (out_at rules (is_withdraw e.kind) past) e.kind then idle_turns rules (is_withdraw e.kind) past + 1
    else idle_turns rules (is_withdraw e.kind) past)

-- the zero run: that number, up to the limit
abbrev pub zero_run_at : Rules → (withdrawn : Bool) (past : List Event) → ℕ
zero_run_at rules withdrawn past = min rules.zero_limit (idle_turns rules withdrawn past)

-- whether a time penalty of a player stands
abbrev pub has_time : Seat → (past : List Event) → Bool
has_time seat [] = false
has_time seat (e ∷ past) = is_time e.kind && same_seat e.player seat || has_time seat past

-- whether a last rack of a player stands
abbrev pub has_last_rack : Seat → (past : List Event) → Bool
has_last_rack seat [] = false
has_last_rack seat (e ∷ past) = is_last_rack e.kind && same_seat e.player seat || has_last_rack seat past

-- whether a pass stands that came after a player was out
abbrev pub has_idle_pass : Rules → (past : List Event) → Bool
has_idle_pass rules [] = false
has_idle_pass rules (e ∷ past) = is_pass e.kind && is_some (out_at rules (is_withdraw e.kind) past) || has_idle_pass rules past

-- whether the game is complete: a last rack stands that came after a player was out or after another last rack
abbrev pub is_complete : Rules → (past : List Event) → Bool
is_complete rules [] = false
is_complete rules (e ∷ past) =
    is_last_rack e.kind && (is_some (out_at rules (is_withdraw e.kind) past) || has_last_rack First past || has_last_rack Second past)
    || is_complete rules past

-- what a player has at a place
abbrev pub side_at : Rules → Seat → (withdrawn : Bool) (past : List Event) → Side
side_at rules seat withdrawn past =
    record {
      total = total_at seat past;
      rack = rack_at rules seat withdrawn past;
      timed = has_time seat past;
      ended = has_last_rack seat past;
    }

-- ---- the latest event

-- A play that was the latest event: its player, its new tiles, the words that it forms and its score, and whether it stands.
pub record LatestPlay : Type 0 where
  pub player : Seat
  pub tiles : List Placed
  pub words : List (List ℕ)
  pub score : ℤ
  pub stands : Bool

-- the play of a text on a board
abbrev pub latest_play : Rules → List (Option Tile) → Seat → Dir → ℕ → List Symbol → Bool → LatestPlay
latest_play rules board player dir at word stands =
    record {
      player = player;
      tiles = placement_of board dir at word;
      words = words_formed dir board (placement_of board dir at word);
      score = pos (score_of rules board (placement_of board dir at word));
      stands = stands;
    }

-- what a record says about the latest event: a play, a withdrawal with the tiles that it took back, or anything else
pub data Latest : Type 0 where
  played : LatestPlay → Latest
  taken_back : List Placed → Latest
  other : Latest

-- the tiles of the first of some plays
abbrev pub first_tiles : List Stood → List Placed
first_tiles [] = []
first_tiles (play ∷ plays) = play.tiles

abbrev pub latest_event : Rules → (withdrawn : Bool) → Seat → EventKind → (past : List Event) → Latest
latest_event rules withdrawn player (kind.Play at dir word) past =
    played (latest_play rules (board_at false past) player dir at word (not withdrawn))
latest_event rules withdrawn player kind.Pass past = other
latest_event rules withdrawn player (kind.Exchange tiles) past = other
latest_event rules withdrawn player (kind.ExchangeUnknown n) past = other
latest_event rules withdrawn player kind.Withdraw past = taken_back (first_tiles (waiting true past))
latest_event rules withdrawn player kind.Challenge past = other
latest_event rules withdrawn player kind.Time past = other
latest_event rules withdrawn player (kind.LastRack tiles) past = other

abbrev pub latest_at : Rules → (withdrawn : Bool) (past : List Event) → Latest
latest_at rules withdrawn [] = other
latest_at rules withdrawn (e ∷ past) = latest_event rules withdrawn e.player e.kind past

-- ---- the whole tally

-- The state of a game between two events.
pub record State : Type 0 where
  pub board : List (Option Tile)
  pub sides : Sides
  pub bag : ℕ
  pub mover : Option Seat
  pub zero_run : ℕ
  pub out : Option Seat
  pub idle_pass : Bool
  pub complete : Bool
  pub latest : Latest

-- the tally after a past
unfoldable pub tally : Rules → (withdrawn : Bool) (past : List Event) → State
tally rules withdrawn past =
    record {
      board = board_at withdrawn past;
      sides = record { first = side_at rules First withdrawn past; second = side_at rules Second withdrawn past };
      bag = bag_after rules (standing withdrawn past);
      mover = mover_at rules withdrawn past;
      zero_run = zero_run_at rules withdrawn past;
      out = out_at rules withdrawn past;
      idle_pass = has_idle_pass rules past;
      complete = is_complete rules past;
      latest = latest_at rules withdrawn past;
    }

-- whether the event at a place is a withdrawal; not if there is no event
abbrev pub withdraws : Option Event → Bool
withdraws None = false
withdraws (Some e) = is_withdraw e.kind

-- the tally at a place of a record, counted from 0
abbrev pub tally_at : Rules → List Event → ℕ → State
tally_at rules events place = tally rules (withdraws (slice_get events place)) (reverse (take place events))
