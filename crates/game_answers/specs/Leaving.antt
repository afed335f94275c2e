-- How many points a player left on the board.
use Rattle.std.specs.Prelude.{ℕ, List, length, slice_get, Option, Some, None}
use Rattle.gcg_read.specs.declared.events.Event.{Event}
use Rattle.gcg_read.specs.declared.events.Seat.TheVariants as seat
use Rattle.game_bests.specs.declared.bests.TurnBest.{TurnBest}
use Rattle.sheet_scores.specs.Gains.{gains_to, IsGain}
use Rattle.game_answers.specs.declared.answers.EventAnswer.{EventAnswer}
use Rattle.game_answers.specs.declared.leaving.GameAnswers.{GameAnswers}

-- what an answer says of the best play of its event
abbrev pub best_in : Option EventAnswer → Option TurnBest
best_in None = None
best_in (Some a) = Some a.best

-- the same for the event at a place
abbrev pub best_of : List EventAnswer → (place : ℕ) → Option TurnBest
best_of answers place = best_in (slice_get answers place)

-- how many points more the best plays of each player would have given in all
pub record AreRemaining (events : List Event) (a : GameAnswers) : Type 0 where
  pub first : IsGain (gains_to seat.First events (best_of a.events.items) (length events)) a.remaining_first
  pub second : IsGain (gains_to seat.Second events (best_of a.events.items) (length events)) a.remaining_second
