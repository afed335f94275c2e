-- Laws: the state that an event leaves is the tally at the next place.
use Rattle.std.specs.Prelude.{◌≡◌, ℕ, ◌+◌, List, slice_get, Some}
use Rattle.ref_tiles.specs.declared.rulebook.Rules.{Rules}
use Rattle.gcg_read.specs.declared.events.Event.{Event}
use Rattle.game_turns.specs.Tallies.{tally_at, withdraws}
use Rattle.game_turns.specs.Places.{AreAllowedTo}
use Rattle.game_turns.specs.Changes.{after}

-- if the events up to and including a place are allowed, what that event makes of the tally there is the tally at the next place
abbrev pub NextTallyIsAfter : Type 0
NextTallyIsAfter =
    (rules : Rules) (list : List (List ℕ)) (events : List Event) (place : ℕ) (event : Event) → slice_get events place ≡ Some event
    → AreAllowedTo rules list events (place + 1)
    → after rules (tally_at rules events place) event (withdraws (slice_get events (place + 1))) ≡ tally_at rules events (place + 1)
