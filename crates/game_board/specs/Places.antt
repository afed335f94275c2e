-- The event that a line of a record means.
use Rattle.std.specs.Prelude.{ℕ, nat_le, Bool, List, Option, position}
use Rattle.gcg_read.specs.declared.events.Event.{Event}

-- whether an event is on a line or after it
abbrev pub is_from : ℕ → Event → Bool
is_from line e = nat_le line e.line

-- the place of the first event on a line or after it, counted from 0; none if every event comes before the line
abbrev pub place_of_line : List Event → (line : ℕ) → Option ℕ
place_of_line events line = position (is_from line) events
