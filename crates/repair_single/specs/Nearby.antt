-- The events near a change, taken by themselves.
use Rattle.std.specs.Prelude.{◌≡◌, ◌⊎◌, ℕ, ◌+◌, ◌-◌, ◌<◌, ◌≤◌, List, length, slice_get, Some}
use Rattle.ref_tiles.specs.declared.rulebook.Rules.{Rules}
use Rattle.gcg_read.specs.declared.events.Event.{Event}
use Rattle.deal_steps.specs.declared.steps.Step.{Step}
use Rattle.game_turns.specs.declared.machine.Machine.{Machine}
use Rattle.game_turns.specs.Tallies.{withdraws}
use Rattle.repair_single.specs.FirstSteps.{IsStepAt}
use Rattle.repair_single.specs.Trying.{StandsBefore, HaveNone}

-- consecutive events among some events, from a place on
pub record IsPart (events near : List Event) (start : ℕ) : Type 0 where
  pub within : start + length near ≤ length events
  pub same : (k : ℕ) → k < length near → slice_get events (start + k) ≡ slice_get near k

-- the steps of the events from a place on, as many as there are steps
abbrev pub AreStepsFrom : Rules → (list : List (List ℕ)) → (events : List Event) → (start : ℕ) → List Step → Type 0
AreStepsFrom rules list events start steps = (k : ℕ) (step : Step) → slice_get steps k ≡ Some step → IsStepAt rules list events (start + k) step

-- Wherever these consecutive events are found and a machine has the game before them, one of them is refused whatever its
-- numbers are.
abbrev pub IsPartRefused : Rules → (list : List (List ℕ)) → (near : List Event) → Machine → Type 0
IsPartRefused rules list near machine = (events : List Event) (start : ℕ) → IsPart events near start → StandsBefore rules list events start machine → HaveNone rules list events

-- Wherever these consecutive events are found and a machine has the game before them, another one has the game before the last of them, and these are
-- the steps of the others, as far as they go.
pub record IsPartTaken (rules : Rules) (list : List (List ℕ)) (near : List Event) (old new : Machine) (steps : List Step) : Type 0 where
  pub stands : (events : List Event) (start : ℕ) → IsPart events near start → StandsBefore rules list events start old → StandsBefore rules list events (start + (length near - 1)) new
  pub follow : (events : List Event) (start : ℕ) → IsPart events near start → StandsBefore rules list events start old → AreStepsFrom rules list events start steps

-- Consecutive events of some events with a change, from a place on: the last of them and all events after it are those of the record from a
-- place on.
pub record IsNear (changed near written : List Event) (start end : ℕ) : Type 0 where
  pub part : IsPart changed near start
  pub all : length changed + end ≡ length written + (start + (length near - 1))
  pub rest : (i : ℕ) → slice_get changed (start + (length near - 1) + i) ≡ slice_get written (end + i)

-- what is known of a change once the events near it are taken: a machine has the game before the last of them, and these are the steps from a place on
pub record IsTakenNear (rules : Rules) (list : List (List ℕ)) (written changed : List Event) (start end many : ℕ) (machine : Machine) (steps : List Step) : Type 0 where
  pub near : List Event
  pub is : IsNear changed near written start end
  pub as_many : length near - 1 ≡ many
  pub front : (k : ℕ) → k < start → slice_get changed k ≡ slice_get written k
  pub starts : (start ≡ 0) ⊎ (withdraws (slice_get changed start) ≡ withdraws (slice_get written start))
  pub stands : StandsBefore rules list changed (start + many) machine
  pub follow : AreStepsFrom rules list changed start steps
