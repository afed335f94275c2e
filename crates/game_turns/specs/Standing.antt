-- The plays of a game that stand, the board with their tiles, the bag and the racks.
--
-- The past of a place is the list of the events before it, the latest first. A play stands unless the event directly after it is a
-- withdrawal; for the latest play of a past that is the event at the place. So what is said about a place is a function of its past
-- and of whether the event at the place is a withdrawal.
use Rattle.std.specs.Prelude.{ℕ, ◌+◌, ◌-◌, ◌==◌, ◌&&◌, Bool, true, false, List, [], ◌∷◌, ◌++◌, length, sum, Option, Some, None, if◌then◌else◌}
use Rattle.ref_tiles.specs.declared.tiles.Tile.{Tile}
use Rattle.ref_tiles.specs.declared.rulebook.Rules.{Rules}
use Rattle.ref_board.specs.Cells.{empty_board}
use Rattle.ref_play.specs.declared.placed.Placed.{Placed}
use Rattle.ref_play.specs.Placements.{with_tiles}
use Rattle.ref_play.specs.Texts.{placement_of}
use Rattle.gcg_read.specs.declared.events.Seat.{Seat}
use Rattle.gcg_read.specs.declared.events.Event.{Event}
use Rattle.gcg_read.specs.declared.events.EventKind.{EventKind}
use Rattle.gcg_read.specs.declared.events.EventKind.TheVariants as kind
use Rattle.game_turns.specs.Seats.{same_seat}

abbrev pub is_withdraw : EventKind → Bool
is_withdraw kind.Withdraw = true
is_withdraw other = false

-- a play: who made it, and its new tiles
pub record Stood : Type 0 where
  pub player : Seat
  pub tiles : List Placed

-- the board with the tiles of plays, the latest first
abbrev pub board_with : List Stood → List (Option Tile)
board_with [] = empty_board
board_with (play ∷ plays) = with_tiles (board_with plays) play.tiles

-- the play of an event on a board; none if it is not a play
abbrev pub played_on : List (Option Tile) → Seat → EventKind → List Stood
played_on board player (kind.Play at dir word) = record { player = player; tiles = placement_of board dir at word } ∷ []
played_on board player kind.Pass = []
played_on board player (kind.Exchange tiles) = []
played_on board player (kind.ExchangeUnknown n) = []
played_on board player kind.Withdraw = []
played_on board player kind.Challenge = []
played_on board player kind.Time = []
played_on board player (kind.LastRack tiles) = []

-- plays, and that of an event, if it is one
abbrev pub with_play : Seat → EventKind → List Stood → List Stood
with_play player what plays = played_on (board_with plays) player what ++ plays

-- the plays of a past that stand, the latest first
abbrev pub standing : (withdrawn : Bool) (past : List Event) → List Stood
standing withdrawn [] = []
standing true (e ∷ past) = standing (is_withdraw e.kind) past
standing false (e ∷ past) = with_play e.player e.kind (standing (is_withdraw e.kind) past)

-- the latest event if it is a play that does not stand
abbrev pub waiting : (withdrawn : Bool) (past : List Event) → List Stood
waiting false past = []
waiting true [] = []
waiting true (e ∷ past) = played_on (board_with (standing (is_withdraw e.kind) past)) e.player e.kind

-- the board at a place: the tiles of the plays that stand, and those of a play that is about to be taken back
abbrev pub board_at : (withdrawn : Bool) (past : List Event) → List (Option Tile)
board_at withdrawn past = board_with (waiting withdrawn past ++ standing withdrawn past)

-- the number of tiles of plays
abbrev pub tiles_laid : List Stood → ℕ
tiles_laid [] = 0
tiles_laid (play ∷ plays) = length play.tiles + tiles_laid plays

-- the number of tiles of one player's plays
abbrev pub laid_by : Seat → List Stood → ℕ
laid_by seat [] = 0
laid_by seat (play ∷ plays) = if same_seat play.player seat then length play.tiles + laid_by seat plays else laid_by seat plays

-- the bag after plays: all tiles except two racks and those on the board, or none
abbrev pub bag_after : Rules → List Stood → ℕ
bag_after rules plays = sum rules.counts - 14 - tiles_laid plays

-- the number of tiles that one player drew: the fall of the bag at each of the player's plays
abbrev pub drawn_by : Rules → Seat → List Stood → ℕ
drawn_by rules seat [] = 0
drawn_by rules seat (play ∷ plays) =
    if same_seat play.player seat then (bag_after rules plays - bag_after rules (play ∷ plays)) + drawn_by rules seat plays
    else drawn_by rules seat plays

-- a player's rack after plays: seven tiles plus those drawn, minus those laid
abbrev pub rack_after : Rules → Seat → List Stood → ℕ
rack_after rules seat plays = 7 + drawn_by rules seat plays - laid_by seat plays

-- a player's rack at a place: the tiles of a play that is about to be taken back are not on it
abbrev pub rack_at : Rules → Seat → (withdrawn : Bool) (past : List Event) → ℕ
rack_at rules seat withdrawn past = rack_after rules seat (standing withdrawn past) - laid_by seat (waiting withdrawn past)

-- the player who is out: the player of a play after which the bag and that player's rack are empty
abbrev pub out_after : Rules → List Stood → Option Seat
out_after rules [] = None
out_after rules (play ∷ plays) =
    if bag_after rules (play ∷ plays) == 0 && rack_after rules play.player (play ∷ plays) == 0 then Some play.player else out_after rules plays
