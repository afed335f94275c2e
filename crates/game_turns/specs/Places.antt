-- Whether the rules allow the event at a place of a record.
use Rattle.std.specs.Prelude.{◌≡◌, ℕ, ◌<◌, Bool, List, length, slice_get, Option, Some, None}
use Rattle.ref_tiles.specs.declared.rulebook.Rules.{Rules}
use Rattle.gcg_read.specs.declared.events.Event.{Event}
use Rattle.game_turns.specs.declared.faults.RuleFault.{RuleFault}
use Rattle.game_turns.specs.Tallies.{State, tally_at}
use Rattle.game_turns.specs.Checks.{fault_in}

abbrev pub fault_of_event : Rules → (list : List (List ℕ)) → State → Option Event → Option RuleFault
fault_of_event rules list s None = None
fault_of_event rules list s (Some e) = fault_in rules list s e

-- The first check that fails at a place of a record, counted from 0, over the tally there; none if the event at the place is
-- allowed, or after the last event.
unfoldable pub fault_at : Rules → (list : List (List ℕ)) → List Event → ℕ → Option RuleFault
fault_at rules list events place = fault_of_event rules list (tally_at rules events place) (slice_get events place)

-- the events before a place are allowed
abbrev pub AreAllowedTo : Rules → (list : List (List ℕ)) → List Event → ℕ → Type 0
AreAllowedTo rules list events end = (place : ℕ) → place < end → fault_at rules list events place ≡ None

-- every event is allowed
abbrev pub AreAllowed : Rules → (list : List (List ℕ)) → List Event → Type 0
AreAllowed rules list events = AreAllowedTo rules list events (length events)

-- the first event that is not allowed, by its line and the first check that fails
pub record IsFirstRefusal (rules : Rules) (list : List (List ℕ)) (events : List Event) (line : ℕ) (why : RuleFault) : Type 0 where
  pub place : ℕ
  pub event : Event
  pub stands : slice_get events place ≡ Some event
  pub on_line : event.line ≡ line
  pub fails : fault_at rules list events place ≡ Some why
  pub earlier : AreAllowedTo rules list events place

-- the first event that is not allowed, if it comes before a place
pub record IsRefusedBefore (rules : Rules) (list : List (List ℕ)) (events : List Event) (end : ℕ) (line : ℕ) (why : RuleFault) : Type 0 where
  pub first : IsFirstRefusal rules list events line why
  pub before : first.place < end

-- whether the game is complete after the last event
abbrev pub is_finished : Rules → List Event → Bool
is_finished rules events = (tally_at rules events (length events)).complete
