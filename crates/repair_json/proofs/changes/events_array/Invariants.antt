use Rattle.std.proofs.Common.{◌≡◌, map, take}
use Rattle.json_trees.specs.Trees.{view}
use Rattle.repair_json.specs.Changes.{event_value}
use Rattle.repair_json.proofs.changes.events_array.Given as goal

abbrev pub invariant-loop-event : goal.invariant-loop-event
invariant-loop-event l = map view l.trees.items ≡ map (event_value l.players) (take l.event-index l.events)
