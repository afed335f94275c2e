-- The turn that a total leaves out.
use Rattle.std.specs.Prelude.{ℕ, ℤ, List, [], ◌∷◌, Option, Some, None, if◌then◌else◌}
use Rattle.std.specs.Ordering.{int_eq}
use Rattle.gcg_read.specs.declared.events.Seat.{Seat}
use Rattle.gcg_read.specs.declared.events.Event.{Event}
use Rattle.gcg_read.specs.Players.{same_seat}

-- The line of a player's latest event, if that has this score, in a list of events with the latest first. If the player's next total is too
-- low by that score, it is right except for that event, and no total after that event has the score.
abbrev pub latest_with : Seat → (score : ℤ) → (past : List Event) → Option ℕ
latest_with seat score [] = None
latest_with seat score (e ∷ past) = if same_seat e.player seat then (if int_eq e.score score then Some e.line else None) else latest_with seat score past
