-- The steps of a record that passed, and the first bound that they exceed.
use Rattle.std.specs.Prelude.{◌≡◌, List, Option, None}
use Rattle.game_turns.specs.declared.passed.Passed.{Passed}
use Rattle.game_turns.specs.Passing.{rules_in, record_in}
use Rattle.deal_steps.specs.declared.steps.Step.{Step}
use Rattle.deal_steps.specs.declared.deals.Held.{Held}
use Rattle.deal_steps.specs.declared.faults.DealBound.{DealBound}
use Rattle.deal_steps.specs.Bounds.{first_bound}
use Rattle.deal_steps.specs.Fitting.{Fits}
use Rattle.game_deal.specs.Recorded.{steps_of}

abbrev pub steps_in : Passed → List Step
steps_in passed = steps_of (rules_in passed) (record_in passed).events

-- the first bound that a line exceeds
abbrev pub bound_in : Passed → Option DealBound
bound_in passed = first_bound (rules_in passed) (steps_in passed)

-- no bound is exceeded
abbrev pub IsBounded : Passed → Type 0
IsBounded passed = bound_in passed ≡ None

-- a deal fits the record
abbrev pub FitsRecord : Passed → List Held → Type 0
FitsRecord passed deal = Fits (rules_in passed) (steps_in passed) deal
