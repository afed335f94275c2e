-- Laws: what the record of a game that passed respects.
use Rattle.std.specs.Prelude.{◌≡◌, ℕ, ◌+◌, List, take, slice_get, Some, None, sum, All}
use Rattle.ref_tiles.specs.declared.rulebook.Rules.{Rules}
use Rattle.gcg_read.specs.declared.events.Event.{Event}
use Rattle.game_turns.specs.Places.{AreAllowed}
use Rattle.deal_steps.specs.declared.deals.Held.{Held}
use Rattle.deal_steps.specs.declared.faults.DealBound.{DealBound}
use Rattle.deal_steps.specs.declared.faults.DealBound.TheVariants as bound
use Rattle.deal_steps.specs.declared.steps.Step.{Step}
use Rattle.deal_steps.specs.Bounds.{first_bound}
use Rattle.deal_steps.specs.Fitting.{Fits}
use Rattle.deal_steps.specs.Runs.{IsRun}
use Rattle.deal_cuts.specs.Cutting.{HasNoDeal}
use Rattle.game_deal.specs.Recorded.{steps_of}

-- if the rules allow every event, the steps of the events are those of a whole game
abbrev pub AllowedIsRun : Type 0
AllowedIsRun = (rules : Rules) (list : List (List ℕ)) (events : List Event) → AreAllowed rules list events → IsRun rules (steps_of rules events)

-- if some racks fit a record all of whose events the rules allow, no bound is exceeded
abbrev pub FittingIsBounded : Type 0
FittingIsBounded =
    (rules : Rules) (list : List (List ℕ)) (events : List Event) (deal : List Held) → AreAllowed rules list events → Fits rules (steps_of rules events) deal
    → first_bound rules (steps_of rules events) ≡ None

-- the line on which a bound is exceeded
abbrev pub bound_line : DealBound → ℕ
bound_line (bound.RackTooBig line) = line
bound_line (bound.TilesShort line kind) = line

-- no racks fit the steps up to the event on a line, that one included
pub record HasNoDealUpTo (rules : Rules) (events : List Event) (line : ℕ) : Type 0 where
  pub place : ℕ
  pub event : Event
  pub stands : slice_get events place ≡ Some event
  pub on_line : event.line ≡ line
  pub undealt : HasNoDeal rules (take (place + 1) (steps_of rules events))

-- if the rules allow every event of a record, and a line exceeds a bound, no racks fit the steps up to that line
abbrev pub ExceedingHasNoDeal : Type 0
ExceedingHasNoDeal =
    (rules : Rules) (list : List (List ℕ)) (events : List Event) (past : DealBound) → AreAllowed rules list events
    → first_bound rules (steps_of rules events) ≡ Some past → HasNoDealUpTo rules events (bound_line past)

-- the number of tiles that the two racks, the bag and the board have together at a step
abbrev pub all_tiles : Step → ℕ
all_tiles s = s.first + s.second + s.bag + sum s.board

-- if the rules allow every event, no tile is lost and none is added: at each step there are all tiles of the rules
abbrev pub TilesAreAll : Type 0
TilesAreAll =
    (rules : Rules) (list : List (List ℕ)) (events : List Event) → AreAllowed rules list events
    → All (λ (s : Step). all_tiles s ≡ sum rules.counts) (steps_of rules events)
