-- Events of which one is changed.
use Rattle.std.specs.Prelude.{◌≡◌, ℕ, List, Some, slice_get, slice_set}
use Rattle.gcg_read.specs.declared.events.Event.{Event}

-- if there is an event at this place, it is changed by the function; no other is changed
abbrev pub IsChangedAt : List Event → ℕ → (Event → Event) → List Event → Type 0
IsChangedAt events place change changed = (e : Event) → slice_get events place ≡ Some e → changed ≡ slice_set events place (change e)
