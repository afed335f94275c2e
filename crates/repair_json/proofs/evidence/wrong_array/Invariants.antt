use Rattle.std.proofs.Common.{◌≡◌, map, take}
use Rattle.std.specs.List.{filter_map}
use Rattle.json_trees.specs.Trees.{view}
use Rattle.repair_json.specs.Evidence.{wrong_object}
use Rattle.repair_json.proofs.evidence.wrong_array.Given as goal

abbrev pub invariant-loop-number : goal.invariant-loop-number
invariant-loop-number l = map view l.trees.items ≡ filter_map wrong_object (take l.number-index l.wrong)
