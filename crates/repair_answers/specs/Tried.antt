-- How many changes of a record are tried.
use Rattle.std.specs.Prelude.{ℕ, ◌+◌, ◌*◌, nat_le, min, List, length, Option, Some, None, if◌then◌else◌}
use Rattle.std.specs.List.{flat_map, range_with_len}
use Rattle.ref_tiles.specs.declared.rulebook.Rules.{Rules}
use Rattle.gcg_read.specs.declared.events.Event.{Event}
use Rattle.game_walk.specs.declared.walking.Walk.{Walk}
use Rattle.repair_changes.specs.declared.slips.Change.{Change}
use Rattle.repair_slips.specs.Changes.{changes_at}

-- how many changes a record has at the places before one
unfoldable pub count_before : Rules → List Event → (place : ℕ) → ℕ
count_before rules events place = length (flat_map (changes_at rules events) (range_with_len 0 place))

-- how many it has at each place up to the one at which its correction stops, or up to the end
abbrev pub count_walked : Rules → List Event → Walk → ℕ
count_walked rules events walk = count_before rules events (length walk.rows.items + 1)

-- How many steps a search may take, about as many as the events that it goes over: as many as it needs if the changes, each counted once for each event,
-- are no more than `steps`, and so many otherwise.
abbrev pub limit_for : (many events steps : ℕ) → Option ℕ
limit_for many events steps = if nat_le (many * events) steps then None else Some steps

-- how many changes are not tried, if the changes from a place on are: those before it
abbrev pub count_untried : Rules → List Event → Walk → (from : ℕ) → ℕ
count_untried rules events walk from = count_before rules events (min from (length walk.rows.items + 1))

-- how many changes there are: those, and the plays that were added to them
abbrev pub count_changes : Rules → List Event → Walk → (plays : List Change) → ℕ
count_changes rules events walk plays = count_walked rules events walk + length plays
