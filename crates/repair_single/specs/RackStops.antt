-- Where the racks of a record stop: no deal yields those of its first events.
use Rattle.std.specs.Prelude.{◌≡◌, ℕ, ◌≤◌, List, [], ◌++◌, length, take, drop, Option, Some, None}
use Rattle.ref_tiles.specs.declared.rulebook.Rules.{Rules}
use Rattle.gcg_read.specs.declared.events.Event.{Event}
use Rattle.deal_steps.specs.declared.steps.Step.{Step}
use Rattle.game_deal.specs.Verdicts.{IsGame}
use Rattle.repair_single.specs.FirstSteps.{AreFirstSteps}
use Rattle.repair_single.specs.Trying.{IsWritable}
use Rattle.repair_single.specs.declared.rack_stops.RackStop.{RackStop}

-- With no numbers that a record can write these events are a game.
abbrev pub MakeNoGame : Rules → (list : List (List ℕ)) → List Event → Type 0
MakeNoGame rules list events = (right : List Event) → IsWritable rules list events right → IsGame rules list right → ⊥

-- No events that begin with these steps make a game.
abbrev pub NoneWith : Rules → List Step → Type 0
NoneWith rules steps = (list : List (List ℕ)) (events : List Event) → AreFirstSteps rules list events steps → MakeNoGame rules list events

-- The first steps of a record, of which the first `end` are those of no game.
pub record IsRackStop (rules : Rules) (list : List (List ℕ)) (written : List Event) (end : ℕ) (steps : List Step) : Type 0 where
  pub first : AreFirstSteps rules list written steps
  pub none : NoneWith rules (take end steps)

-- the place where the racks stop, if one is known
abbrev pub IsStop : Rules → (list : List (List ℕ)) → (written : List Event) → Option RackStop → Type 0
IsStop rules list written None = Unit {0}
IsStop rules list written (Some stop) = IsRackStop rules list written stop.end stop.steps.items

-- the steps that are kept with it
abbrev pub steps_in : Option RackStop → List Step
steps_in None = []
steps_in (Some stop) = stop.steps.items

-- The steps of a record, with others in place of those from one place up to another, up to some end.
pub record IsStepsAround (kept : List Step) (start : ℕ) (first : List Step) (end : ℕ) (all : List Step) : Type 0 where
  pub last : ℕ
  pub are : all ≡ take start kept ++ (first ++ take last (drop end kept))

-- With other steps in place of those from one place up to another no events make a game.
pub record StopsAgain (rules : Rules) (kept : List Step) (start many end : ℕ) (first : List Step) : Type 0 where
  pub all : List Step
  pub around : IsStepsAround kept start first end all
  pub none : NoneWith rules all
  pub as_many : length first ≡ many
  pub within : end ≤ length kept
  pub before : start ≤ end
