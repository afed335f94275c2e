-- The steps of the first events of a record, once these are corrected.
use Rattle.std.specs.Prelude.{◌≡◌, ◌⊎◌, ℕ, ◌+◌, List, [], ◌∷◌, ◌++◌, length, slice_get, Some}
use Rattle.ref_tiles.specs.declared.rulebook.Rules.{Rules}
use Rattle.gcg_read.specs.declared.events.Event.{Event}
use Rattle.game_turns.specs.Places.{AreAllowedTo}
use Rattle.game_turns.specs.Tallies.{State, tally_at, withdraws}
use Rattle.game_corrections.specs.Corrections.{AreRenumbered}
use Rattle.deal_steps.specs.declared.steps.Step.{Step}
use Rattle.game_deal.specs.Recorded.{step_in}

-- The step of the event at a place, once the events before it are corrected. It depends on no number of the event itself.
pub record IsStepAt (rules : Rules) (list : List (List ℕ)) (events : List Event) (place : ℕ) (step : Step) : Type 0 where
  pub front : List Event
  pub renumbered : AreRenumbered events front
  pub allowed : AreAllowedTo rules list front place
  pub event : Event
  pub there : slice_get front place ≡ Some event
  pub is : step ≡ step_in (tally_at rules front place) event (withdraws (slice_get front (place + 1)))

-- the steps of the first events, as many as there are steps
abbrev pub AreFirstSteps : Rules → (list : List (List ℕ)) → (events : List Event) → List Step → Type 0
AreFirstSteps rules list events steps = (place : ℕ) (step : Step) → slice_get steps place ≡ Some step → IsStepAt rules list events place step

-- The step of the event at a place, by the state before it, comes after those of all events before it.
pub record IsNextStep (s : State) (events : List Event) (place : ℕ) (old new : List Step) : Type 0 where
  pub event : Event
  pub there : slice_get events place ≡ Some event
  pub as_many : length old ≡ place
  pub added : new ≡ old ++ step_in s event (withdraws (slice_get events (place + 1))) ∷ []

-- that step comes after the others, or none does
abbrev pub MayAddStep : State → (events : List Event) → (place : ℕ) → (old new : List Step) → Type 0
MayAddStep s events place old new = (new ≡ old) ⊎ IsNextStep s events place old new
