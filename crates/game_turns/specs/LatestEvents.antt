-- What the machine keeps of the latest event.
use Rattle.std.specs.Prelude.{◌≡◌, ℕ, ◌+◌, ◌≤◌, ◌&&◌, not, true, false, List, [], length, Option, Some, None, if◌then◌else◌}
use Rattle.ref_tiles.specs.declared.tiles.Tile.{Tile}
use Rattle.ref_play.specs.declared.placed.Placed.{Placed}
use Rattle.ref_play.specs.Placements.{HasTiles}
use Rattle.ref_play.specs.Words.{items_of}
use Rattle.gcg_read.specs.declared.events.Seat.{Seat}
use Rattle.game_turns.specs.declared.latest.Laid.{Laid}
use Rattle.game_turns.specs.declared.latest.LatestEvent.{LatestEvent}
use Rattle.game_turns.specs.declared.latest.LatestEvent.TheVariants as latest
use Rattle.game_turns.specs.declared.sides.Sides.{Sides}
use Rattle.game_turns.specs.Seats.{same_seat, side_of}
use Rattle.game_turns.specs.Tallies.{LatestPlay, Latest, played, taken_back, other}

-- what a laid play is in the tally
abbrev pub play_of : Laid → LatestPlay
play_of laid =
    record { player = laid.player; tiles = laid.play.tiles.items; words = items_of laid.words.items; score = laid.score; stands = laid.stands }

abbrev pub latest_of : LatestEvent → Latest
latest_of (latest.Played laid) = played (play_of laid)
latest_of (latest.TakenBack play) = taken_back play.tiles.items
latest_of latest.Other = other

-- the new tiles of the latest event: of a play, or those that a withdrawal took back
abbrev pub latest_tiles : Latest → Option (List Placed)
latest_tiles (played p) = Some p.tiles
latest_tiles (taken_back tiles) = Some tiles
latest_tiles other = None

-- the words of the latest event, if it is a play
abbrev pub latest_words : Latest → List (List ℕ)
latest_words (played p) = p.words
latest_words (taken_back tiles) = []
latest_words other = []

-- the words of the latest event, if it is a play that stands
abbrev pub standing_words : Latest → List (List ℕ)
standing_words (played p) = if p.stands then p.words else []
standing_words (taken_back tiles) = []
standing_words other = []

-- the tiles of a player's play that awaits its withdrawal
abbrev pub waiting_tiles : Seat → LatestEvent → ℕ
waiting_tiles seat (latest.Played laid) = if not laid.stands && same_seat laid.player seat then length laid.play.tiles.items else 0
waiting_tiles seat (latest.TakenBack play) = 0
waiting_tiles seat latest.Other = 0

-- no player has more than seven tiles, even once a play is taken back
abbrev pub FitRacks : Sides → LatestEvent → Type 0
FitRacks sides event = (seat : Seat) → (side_of sides seat).rack + waiting_tiles seat event ≤ 7

-- the tiles of the latest play lie on the board
abbrev pub HoldsLatest : List (Option Tile) → LatestEvent → Type 0
HoldsLatest board event = (laid : Laid) → event ≡ latest.Played laid → HasTiles board laid.play.tiles.items

-- the latest event is a play of this player that awaits its withdrawal
abbrev pub IsAwaited : LatestEvent → Seat → Type 0
IsAwaited (latest.Played laid) seat = (laid.stands ≡ false) × (same_seat laid.player seat ≡ true)
IsAwaited (latest.TakenBack play) seat = ⊥
IsAwaited latest.Other seat = ⊥
