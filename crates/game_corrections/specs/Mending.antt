-- What is done to one event of a sheet.
use Rattle.std.specs.Prelude.{◌≡◌, ℕ, ◌+◌, List, slice_get, Option, Some, None}
use Rattle.ref_tiles.specs.declared.rulebook.Rules.{Rules}
use Rattle.gcg_read.specs.declared.events.Event.{Event}
use Rattle.game_turns.specs.Tallies.{State, withdraws}
use Rattle.game_turns.specs.Changes.{after}
use Rattle.game_corrections.specs.Corrections.{AreRenumbered, HasRefusedNumbers}

-- the events, the one at a place with its own numbers or with others
pub record IsMendedAt (old new : List Event) (place : ℕ) : Type 0 where
  pub renumbered : AreRenumbered old new
  pub others : (k : ℕ) → (k ≡ place → ⊥) → slice_get new k ≡ slice_get old k

-- the event at a place with the numbers with which it is refused, by the state before it
pub record IsRefusedAt (rules : Rules) (list : List (List ℕ)) (s : State) (old new : List Event) (place : ℕ) : Type 0 where
  pub numbers : (e x : Event) → slice_get old place ≡ Some e → slice_get new place ≡ Some x → HasRefusedNumbers rules list s e x

-- the state after an event, if there is one, and the next event
abbrev pub after_event : Rules → State → Option Event → (next : Option Event) → State
after_event rules s None next = s
after_event rules s (Some e) next = after rules s e (withdraws next)

-- the state after the event at a place
abbrev pub state_after : Rules → State → List Event → ℕ → State
state_after rules s events place = after_event rules s (slice_get events place) (slice_get events (place + 1))
