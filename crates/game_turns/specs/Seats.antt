-- The two players.
use Rattle.std.specs.Prelude.{ℕ, ℤ, pos, Bool, true, false, Option, Some, None}
use Rattle.gcg_read.specs.declared.events.Seat.{Seat}
use Rattle.gcg_read.specs.declared.events.Seat.TheVariants.{First, Second}
pub use Rattle.gcg_read.specs.Players.{same_seat}
use Rattle.game_turns.specs.declared.sides.Side.{Side}
use Rattle.game_turns.specs.declared.sides.Sides.{Sides}

-- whether the next turn may be the player's: before the first turn it may be either player's
abbrev pub may_move : Option Seat → Seat → Bool
may_move None seat = true
may_move (Some mover) seat = same_seat mover seat

-- what each player begins with
abbrev pub starting_side : Side
starting_side = record { total = pos 0; rack = 7; timed = false; ended = false }

-- what a player has
abbrev pub side_of : Sides → Seat → Side
side_of sides First = sides.first
side_of sides Second = sides.second

-- both players, with something else for one of them
abbrev pub with_side : Sides → Seat → Side → Sides
with_side sides First side = record sides { first = side }
with_side sides Second side = record sides { second = side }

abbrev pub with_total : Sides → Seat → ℤ → Sides
with_total sides seat total = with_side sides seat (record (side_of sides seat) { total = total })

abbrev pub with_rack : Sides → Seat → ℕ → Sides
with_rack sides seat rack = with_side sides seat (record (side_of sides seat) { rack = rack })
