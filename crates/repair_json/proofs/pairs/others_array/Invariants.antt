use Rattle.std.proofs.Common.{◌≡◌, map, take}
use Rattle.std.specs.List.{filter_map}
use Rattle.json_trees.specs.Trees.{view}
use Rattle.repair_json.specs.Pairs.{second_at}
use Rattle.repair_json.proofs.pairs.others_array.Given as goal

abbrev pub invariant-loop-index : goal.invariant-loop-index
invariant-loop-index l = map view l.trees.items ≡ filter_map (second_at l.players l.pairs) (take l.index-index l.others)
