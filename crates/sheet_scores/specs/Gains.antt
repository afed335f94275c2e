-- How many points more the best plays would have given.
use Rattle.std.specs.Prelude.{◌≡◌, ℕ, zero, suc, ◌+◌, ◌^◌, ◌≤◌, ℤ, pos, negsuc, Bool, List, slice_get, Option, Some, None, if◌then◌else◌}
use Rattle.gcg_read.specs.Players.{same_seat}
use Rattle.gcg_read.specs.declared.events.Event.{Event}
use Rattle.gcg_read.specs.declared.events.Seat.{Seat}
use Rattle.game_turns.specs.Tallies.{withdraws}
use Rattle.game_bests.specs.declared.bests.TurnBest.{TurnBest}
use Rattle.game_bests.specs.declared.bests.TurnBest.TheVariants as best

-- what an event with this score gave: the score; and nothing if it is a play that the next event takes back
abbrev pub given_by : (taken_back : Bool) → (score : ℤ) → ℤ
given_by taken_back score = if taken_back then pos 0 else score

-- the same for the event at a place, counted from 0
abbrev pub given_at : List Event → (place : ℕ) → Event → ℤ
given_at events place e = given_by (withdraws (slice_get events (place + 1))) e.score

-- a number if it is above 0, and otherwise 0
abbrev pub above_zero : ℤ → ℕ
above_zero (pos n) = n
above_zero (negsuc n) = 0

-- how many points more the best play of an event would have given: 0 if it would have given as many or fewer, or if it is not known
abbrev pub gain_in : TurnBest → ℕ
gain_in best.NoTurn = 0
gain_in best.NotShown = 0
gain_in best.NoPlay = 0
gain_in (best.Best b) = above_zero b.more

abbrev pub known_gain : Option TurnBest → ℕ
known_gain None = 0
known_gain (Some b) = gain_in b

-- the same for an event of a player, and 0 for other events
abbrev pub gain_of : Seat → Option Event → Option TurnBest → ℕ
gain_of player None b = 0
gain_of player (Some e) b = if same_seat e.player player then known_gain b else 0

-- how many points more the best plays of a player's events before a place would have given in all; `best_at` has what is said of the best play of
-- the event at each place
unfoldable pub gains_to : Seat → List Event → (best_at : ℕ → Option TurnBest) → (end : ℕ) → ℕ
gains_to player events best_at zero = 0
gains_to player events best_at (suc place) = gains_to player events best_at place + gain_of player (slice_get events place) (best_at place)

-- a sum, and none exactly if it is 2^64 or more
abbrev pub IsGain : (sum : ℕ) → Option ℕ → Type 0
IsGain sum None = 2 ^ 64 ≤ sum
IsGain sum (Some gain) = gain ≡ sum
