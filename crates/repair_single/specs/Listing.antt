-- The single changes of a record, with plays that are added to them.
use Rattle.std.specs.Prelude.{ℕ, ◌==◌, List, ◌++◌}
use Rattle.std.specs.List.{filter}
use Rattle.ref_tiles.specs.declared.rulebook.Rules.{Rules}
use Rattle.gcg_read.specs.declared.events.Event.{Event}
use Rattle.repair_changes.specs.declared.slips.Change.{Change}
use Rattle.repair_slips.specs.Changes.{changes_at}

-- those of some changes that are at a place
abbrev pub those_at : (changes : List Change) → (place : ℕ) → List Change
those_at changes place = filter (λ (c : Change). c.place == place) changes

-- The changes at a place of a record: those of its list, and after them the plays that were added there.
abbrev pub changes_with : Rules → (written : List Event) → (plays : List Change) → (place : ℕ) → List Change
changes_with rules written plays place = changes_at rules written place ++ those_at plays place
