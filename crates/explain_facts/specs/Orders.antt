-- Lines that are written twice, in the wrong order or under the wrong name, and missing lines.
use Rattle.std.specs.Prelude.{◌≡◌, ℕ, ℤ, ◌+◌, ◌+ℤ◌, ◌≤ℤ◌, pos, Bool, ◌∷◌, ◌++◌, length, drop, find, slice_get, Some}
use Rattle.gcg_read.specs.declared.events.Seat.{Seat}
use Rattle.gcg_read.specs.declared.events.Event.{Event}
use Rattle.gcg_read.specs.Players.{same_seat, other_seat}
use Rattle.game_turns.specs.Seats.{side_of}
use Rattle.game_turns.specs.Checks.{total_after}
use Rattle.game_turns.specs.Places.{AreAllowed, AreAllowedTo}
use Rattle.explain_facts.specs.declared.facts.orders.OrderFact.{OrderFact}
use Rattle.explain_facts.specs.declared.facts.orders.OrderFact.TheVariants as order_fact
use Rattle.explain_facts.specs.Moments.{Moment, last_event}

-- the event before says the same, on its own line
pub record StandsTwice (m : Moment) (line : ℕ) : Type 0 where
  pub latest : Event
  pub last : last_event m.past ≡ Some latest
  pub on_line : line ≡ latest.line
  pub same : record latest { line = m.event.line } ≡ m.event

-- with the event and the next one interchanged, the rules allow every event of the record
pub record AreTheOtherWay (m : Moment) (line next : ℕ) : Type 0 where
  pub other : Event
  pub following : slice_get m.later 0 ≡ Some other
  pub own : line ≡ m.event.line
  pub on_line : next ≡ other.line
  pub allowed : AreAllowed m.rules m.list (m.past ++ other ∷ m.event ∷ drop 1 m.later)

-- an event of a player
abbrev pub is_of : Seat → Event → Bool
is_of player e = same_seat e.player player

-- The total of the event is right, and the other player's next total is `score` more than what that player had plus the score on
-- that line: as if a line of the other player with these points were missing, after the line before and before that of the event. No
-- points are those of a pass or of an exchange, and no line scores less.
pub record IsMissing (m : Moment) (player : Seat) (score : ℤ) (before after : ℕ) : Type 0 where
  pub other : player ≡ other_seat m.event.player
  pub right : m.event.total ≡ total_after m.before m.event
  pub latest : Event
  pub last : last_event m.past ≡ Some latest
  pub following : before ≡ latest.line
  pub ahead : after ≡ m.event.line
  pub next : Event
  pub found : find (is_of player) m.later ≡ Some next
  pub lacks : next.total ≡ ((side_of m.before.sides player).total +ℤ score) +ℤ next.score
  pub gains : pos 0 ≤ℤ score

-- as a line of the other player, the rules allow the event
pub record IsOthers (m : Moment) (other : Seat) : Type 0 where
  pub is : other ≡ other_seat m.event.player
  pub allowed : AreAllowedTo m.rules m.list (m.past ++ record m.event { player = other } ∷ m.later) (length m.past + 1)

-- what each fact about the order of the lines says is true at the moment
abbrev pub IsOrderTrue : Moment → OrderFact → Type 0
IsOrderTrue m (order_fact.StandsTwice line) = StandsTwice m line
IsOrderTrue m (order_fact.WrongWay line next) = AreTheOtherWay m line next
IsOrderTrue m (order_fact.Missing player score before after) = IsMissing m player score before after
IsOrderTrue m (order_fact.AllowedFor other) = IsOthers m other
