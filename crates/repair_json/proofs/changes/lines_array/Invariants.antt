use Rattle.std.proofs.Common.{◌≡◌, map, take}
use Rattle.json_trees.specs.Trees.{view}
use Rattle.repair_json.specs.Changes.{line_value}
use Rattle.repair_json.proofs.changes.lines_array.Given as goal

abbrev pub invariant-loop-event : goal.invariant-loop-event
invariant-loop-event l = map view l.trees.items ≡ map line_value (take l.event-index l.events)
