use Rattle.std.proofs.Common.{◌≡◌, map, take}
use Rattle.std.specs.List.{filter_map}
use Rattle.json_trees.specs.Trees.{view}
use Rattle.repair_json.specs.Answers.{reported_repair}
use Rattle.repair_json.proofs.answers.repairs_array.Given as goal

abbrev pub invariant-loop-reported : goal.invariant-loop-reported
invariant-loop-reported l = map view l.trees.items ≡ filter_map (reported_repair l.game l.lacks l.repairs) (take l.reported-index l.lines)
