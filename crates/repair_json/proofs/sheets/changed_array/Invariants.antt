use Rattle.std.proofs.Common.{◌≡◌, map}
use Rattle.json_trees.specs.Trees.{view}
use Rattle.repair_json.specs.Changes.{event_value}
use Rattle.repair_json.specs.Sheets.{changed_to}
use Rattle.repair_json.proofs.sheets.changed_array.Given as goal

abbrev pub invariant-loop-place : goal.invariant-loop-place
invariant-loop-place l = map view l.trees.items ≡ map (event_value l.players) (changed_to l.slip l.right l.place)
