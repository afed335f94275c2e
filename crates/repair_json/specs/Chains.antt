-- Several changes, one after the other, as an object.
use Rattle.std.specs.Prelude.{List, [], ◌∷◌, codes, length, Option, option_map}
use Rattle.json.specs.Json.{Json}
use Rattle.json_trees.specs.Values.{Field, array_of, count, object_of, or_null}
use Rattle.gcg_read.specs.declared.events.Event.{Event}
use Rattle.gcg_read.specs.declared.players.Players.{Players}
use Rattle.gcg_read.specs.declared.records.Record.{Record}
use Rattle.repair_changes.specs.Spots.{spot_of}
use Rattle.repair_single.specs.declared.repair.Repair.{Repair}
use Rattle.repair_pairs.specs.Spots.{later_spot}
use Rattle.repair_pairs.specs.Totals.{chain_cost, chain_numbers, chain_weight}
use Rattle.repair_pairs.specs.declared.chains.Chain.{Chain}
use Rattle.repair_pairs.specs.declared.found.Head.{Head}
use Rattle.repair_json.specs.Changes.{change_object}
use Rattle.repair_json.specs.Evidence.{evidence_object}

-- the changes after those that make some events, each by the events that the change before it makes, and the last one, which is a repair
abbrev pub later_changes : Players → (made : List Event) → List Head → (last : Repair) → List Json
later_changes players made [] last = change_object players made last.listed.change (later_spot made last.listed.change) last.right ∷ []
later_changes players made (step ∷ steps) last =
    change_object players made step.first.change (later_spot made step.first.change) step.made ∷ later_changes players step.made steps last

-- all changes: the first one is by the events of the record
abbrev pub all_changes : Players → (events : List Event) → List Head → (last : Repair) → List Json
all_changes players events [] last = later_changes players events [] last
all_changes players events (step ∷ steps) last =
    change_object players events step.first.change (spot_of events step.first.change) step.made ∷ later_changes players step.made steps last

-- the changes, what all slips weigh, what the chain costs, and the evidence
abbrev pub chain_fields : Record → Chain → List Field
chain_fields r chain =
    (codes "changes", array_of (all_changes r.players r.events chain.steps.items chain.last))
    ∷ (codes "weight", count (chain_weight chain))
    ∷ (codes "cost", count (chain_cost chain))
    ∷ (codes "evidence", evidence_object chain.last.remains (chain_numbers chain (length r.events)))
    ∷ []

abbrev pub chain_object : Record → Chain → Json
chain_object r chain = object_of (chain_fields r chain)

-- null if there is none
abbrev pub chain_value : Record → Option Chain → Json
chain_value r chain = or_null (option_map (chain_object r) chain)
