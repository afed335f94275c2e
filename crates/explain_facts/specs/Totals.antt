-- The right total of an event, and penalties for time.
use Rattle.std.specs.Prelude.{◌≡◌, ◌≢◌, ℕ, pos, ◌+ℤ◌, ◌&&◌, Bool, true, false, List, Contains, reverse, Some}
use Rattle.gcg_read.specs.declared.events.Seat.{Seat}
use Rattle.gcg_read.specs.declared.events.Event.{Event}
use Rattle.gcg_read.specs.Players.{same_seat}
use Rattle.game_turns.specs.Seats.{side_of}
use Rattle.game_turns.specs.Tallies.{is_time}
use Rattle.game_turns.specs.Checks.{total_after, is_penalty}
use Rattle.explain_clues.specs.Totals.{latest_with}
use Rattle.explain_facts.specs.declared.facts.totals.TotalFact.{TotalFact}
use Rattle.explain_facts.specs.declared.facts.totals.TotalFact.TheVariants as total_fact
use Rattle.explain_facts.specs.Moments.{Moment}

-- whether an event is a penalty for time of a player
abbrev pub is_time_of : Seat → Event → Bool
is_time_of player e = is_time e.kind && same_seat e.player player

-- the line of a penalty for time of a player
pub record IsTimeOf (events : List Event) (player : Seat) (line : ℕ) : Type 0 where
  pub penalty : Event
  pub among : Contains events penalty
  pub time : is_time penalty.kind ≡ true
  pub by : same_seat penalty.player player ≡ true
  pub on_line : penalty.line ≡ line

-- what each fact about the total or a penalty for time says is true at the moment
abbrev pub IsTotalTrue : Moment → TotalFact → Type 0
IsTotalTrue m (total_fact.Wrong player had score right written) =
    (player ≡ m.event.player) × (had ≡ (side_of m.before.sides player).total) × (score ≡ m.event.score) × (right ≡ had +ℤ score) × (written ≡ m.event.total)
    × (right ≢ written)
IsTotalTrue m total_fact.LeavesOutOwn = (m.event.score ≢ pos 0) × (m.event.total ≡ (side_of m.before.sides m.event.player).total)
IsTotalTrue m (total_fact.LeavesOut line score) =
    (latest_with m.event.player score (reverse m.past) ≡ Some line) × (score ≢ pos 0) × (m.event.total +ℤ score ≡ total_after m.before m.event)
IsTotalTrue m (total_fact.TimeStep step written) =
    (is_time m.event.kind ≡ true) × (step ≡ m.rules.time_step) × (written ≡ m.event.score) × (is_penalty step written ≡ false)
IsTotalTrue m (total_fact.SecondTime player line) = (player ≡ m.event.player) × IsTimeOf m.past player line
