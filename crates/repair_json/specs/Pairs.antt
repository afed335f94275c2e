-- A pair of changes as an object.
use Rattle.std.specs.Prelude.{ℕ, ◌+◌, List, [], ◌∷◌, codes, length, slice_get, Option}
use Rattle.std.specs.List.{filter_map}
use Rattle.std.specs.Option.{option_and_then}
use Rattle.json.specs.Json.{Json}
use Rattle.json_trees.specs.Values.{Field, array_of, count, object_of}
use Rattle.gcg_read.specs.declared.players.Players.{Players}
use Rattle.gcg_read.specs.declared.records.Record.{Record}
use Rattle.repair_changes.specs.Numbers.{numbers_with_both}
use Rattle.repair_changes.specs.Spots.{spot_of}
use Rattle.repair_changes.specs.Weights.{weight_of}
use Rattle.repair_pairs.specs.Spots.{later_spot}
use Rattle.repair_pairs.specs.declared.found.Head.{Head}
use Rattle.repair_pairs.specs.declared.found.Pair.{Pair}
use Rattle.repair_json.specs.Changes.{change_object, put_by}
use Rattle.repair_json.specs.Evidence.{evidence_object}

-- the first change, by the events of the record, and the second one, by those that the first one makes
abbrev pub first_object : Record → Head → Json
first_object r head = change_object r.players r.events head.first.change (spot_of r.events head.first.change) head.made

abbrev pub second_object : Record → Head → Pair → Json
second_object r head pair =
    change_object r.players head.made pair.then.listed.change (later_spot head.made pair.then.listed.change) pair.then.right

-- what the second change of one of several pairs puts at its place
abbrev pub second_by : Players → Pair → Option Json
second_by players pair = put_by players pair.then

abbrev pub second_at : Players → List Pair → (index : ℕ) → Option Json
second_at players pairs index = option_and_then (second_by players) (slice_get pairs index)

-- a pair with the numbers of those that share its line: both changes, what the second change of the others puts there, what both slips weigh, what the pair
-- costs, and the evidence
abbrev pub pair_fields : Record → List Pair → Head → Pair → (others : List ℕ) → List Field
pair_fields r pairs head pair others =
    (codes "changes", array_of (first_object r head ∷ second_object r head pair ∷ []))
    ∷ (codes "others", array_of (filter_map (second_at r.players pairs) others))
    ∷ (codes "weight", count (weight_of head.first.change.slip + weight_of pair.then.listed.change.slip))
    ∷ (codes "cost", count pair.cost)
    ∷ (codes "evidence", evidence_object pair.then.remains (numbers_with_both head.first.change.slip pair.then.listed.change.slip (length r.events)))
    ∷ []

abbrev pub pair_object : Record → List Pair → Head → Pair → (others : List ℕ) → Json
pair_object r pairs head pair others = object_of (pair_fields r pairs head pair others)
