-- What an event that the rules allow does to a state, and what its turn was.
use Rattle.std.specs.Prelude.{ℕ, ◌+◌, ◌-◌, ◌==◌, ◌&&◌, ◌||◌, min, not, Bool, true, false, length, Option, Some, None, is_some, if◌then◌else◌}
use Rattle.ref_tiles.specs.declared.rulebook.Rules.{Rules}
use Rattle.ref_play.specs.Placements.{with_tiles, without_tiles}
use Rattle.gcg_read.specs.Players.{other_seat}
use Rattle.gcg_read.specs.declared.events.Seat.{Seat}
use Rattle.gcg_read.specs.declared.events.Event.{Event}
use Rattle.gcg_read.specs.declared.events.EventKind.{EventKind}
use Rattle.gcg_read.specs.declared.events.EventKind.TheVariants as kind
use Rattle.game_turns.specs.declared.sides.Sides.{Sides}
use Rattle.game_turns.specs.declared.turns.Turn.{Turn}
use Rattle.game_turns.specs.Seats.{side_of, with_side, with_total, with_rack}
use Rattle.game_turns.specs.Tallies.{State, LatestPlay, latest_play, Latest, played, taken_back, other, is_play, is_turn}
use Rattle.game_turns.specs.Checks.{total_after}

-- the sides with the event's score in its player's total
abbrev pub scored : State → Event → Sides
scored s e = with_total s.sides e.player (total_after s e)

-- the score is counted, and the event is neither a play nor a withdrawal
abbrev pub after_scored : State → Event → State
after_scored s e = record s { sides = scored s e; latest = other }

-- one more turn in the zero run
abbrev pub longer_run : Rules → State → ℕ
longer_run rules s = min rules.zero_limit (s.zero_run + 1)

-- the tiles that a player draws for a play: as many as were laid, or as many as the bag has if it has fewer
abbrev pub drawn_for : State → LatestPlay → ℕ
drawn_for s p = min (length p.tiles) s.bag

-- the rack of a player after a play that stands
abbrev pub rack_refilled : State → Event → LatestPlay → ℕ
rack_refilled s e p = (side_of s.sides e.player).rack - length p.tiles + drawn_for s p

-- A play that stands: its tiles are on the board, and its player draws. A player with an empty rack and an empty bag is out.
unfoldable pub after_standing : State → Event → LatestPlay → State
after_standing s e p =
    record s {
      board = with_tiles s.board p.tiles;
      sides = with_rack (scored s e) e.player (rack_refilled s e p);
      bag = s.bag - drawn_for s p;
      mover = Some (other_seat e.player);
      zero_run = 0;
      out = if s.bag - drawn_for s p == 0 && rack_refilled s e p == 0 then Some e.player else s.out;
      latest = played p;
    }

-- A play that does not stand: its tiles are on the board until it is taken back, and nothing is drawn.
unfoldable pub after_waiting : State → Event → LatestPlay → State
after_waiting s e p =
    record s {
      board = with_tiles s.board p.tiles;
      sides = with_rack (scored s e) e.player ((side_of s.sides e.player).rack - length p.tiles);
      latest = played p;
    }

abbrev pub after_play : State → Event → LatestPlay → (withdrawn : Bool) → State
after_play s e p true = after_waiting s e p
after_play s e p false = after_standing s e p

-- a turn without tiles: an exchange, or a pass
unfoldable pub after_idle : Rules → State → Event → State
after_idle rules s e =
    record s { sides = scored s e; mover = Some (other_seat e.player); zero_run = longer_run rules s; latest = other }

-- a pass after the other player is out, which is not a turn
unfoldable pub after_idle_pass : State → Event → State
after_idle_pass s e = record s { sides = scored s e; idle_pass = true; latest = other }

abbrev pub after_pass : Rules → State → Event → (out : Option Seat) → State
after_pass rules s e None = after_idle rules s e
after_pass rules s e (Some out) = after_idle_pass s e

-- A withdrawal of the latest event: the tiles of the play go back to the rack, and the turn passes.
unfoldable pub after_withdraw : Rules → State → Event → Latest → State
after_withdraw rules s e (played p) =
    record s {
      board = without_tiles s.board p.tiles;
      sides = with_rack (scored s e) e.player ((side_of s.sides e.player).rack + length p.tiles);
      mover = Some (other_seat e.player);
      zero_run = longer_run rules s;
      latest = taken_back p.tiles;
    }
after_withdraw rules s e (taken_back tiles) = s
after_withdraw rules s e other = s

unfoldable pub after_challenge : State → Event → State
after_challenge s e = record s { sides = scored s e; latest = other }

-- a time penalty
unfoldable pub after_time : State → Event → State
after_time s e =
    record s { sides = with_side (scored s e) e.player (record (side_of (scored s e) e.player) { timed = true }); latest = other }

-- a last rack: the game is complete if a player is out, or if another last rack stands
unfoldable pub after_last_rack : State → Event → State
after_last_rack s e =
    record s {
      sides = with_side (scored s e) e.player (record (side_of (scored s e) e.player) { ended = true });
      complete = is_some s.out || s.sides.first.ended || s.sides.second.ended || s.complete;
      latest = other;
    }

abbrev pub after_kind : Rules → State → Event → EventKind → (withdrawn : Bool) → State
after_kind rules s e (kind.Play at dir word) withdrawn = after_play s e (latest_play rules s.board e.player dir at word (not withdrawn)) withdrawn
after_kind rules s e kind.Pass withdrawn = after_pass rules s e s.out
after_kind rules s e (kind.Exchange tiles) withdrawn = after_idle rules s e
after_kind rules s e (kind.ExchangeUnknown n) withdrawn = after_idle rules s e
after_kind rules s e kind.Withdraw withdrawn = after_withdraw rules s e s.latest
after_kind rules s e kind.Challenge withdrawn = after_challenge s e
after_kind rules s e kind.Time withdrawn = after_time s e
after_kind rules s e (kind.LastRack tiles) withdrawn = after_last_rack s e

-- The state after an event that the rules allow; `withdrawn` says whether a withdrawal comes after it.
unfoldable pub after : Rules → State → Event → (withdrawn : Bool) → State
after rules s e withdrawn = after_kind rules s e e.kind withdrawn

-- what the event was: whether it was a turn, the number of tiles that its player had before it, and whether it was a play that stands
unfoldable pub turn_of : State → Event → (withdrawn : Bool) → Turn
turn_of s e withdrawn =
    record {
      counted = is_turn withdrawn s.out e.kind;
      rack_size = (side_of s.sides e.player).rack;
      stands = is_play e.kind && not withdrawn;
    }
