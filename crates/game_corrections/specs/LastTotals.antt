-- The last total of a player, and its line.
use Rattle.std.specs.Prelude.{ℕ, ℤ, List, [], ◌∷◌, Option, Some, None, if◌then◌else◌}
use Rattle.gcg_read.specs.Players.{same_seat}
use Rattle.gcg_read.specs.declared.events.Seat.{Seat}
use Rattle.gcg_read.specs.declared.events.Event.{Event}

-- the later of two totals, if there are both
abbrev pub later : Option ℤ → Option ℤ → Option ℤ
later (Some total) earlier = Some total
later None earlier = earlier

-- the last total written for a player
abbrev pub last_total : Seat → List Event → Option ℤ
last_total player [] = None
last_total player (e ∷ events) = later (last_total player events) (if same_seat e.player player then Some e.total else None)

-- the later of two lines, if there are both
abbrev pub later_line : Option ℕ → Option ℕ → Option ℕ
later_line (Some line) earlier = Some line
later_line None earlier = earlier

-- the line of a player's last event
abbrev pub last_line : Seat → List Event → Option ℕ
last_line player [] = None
last_line player (e ∷ events) = later_line (last_line player events) (if same_seat e.player player then Some e.line else None)
