use Rattle.std.proofs.Common.{◌≡◌, map, take}
use Rattle.std.specs.List.{filter_map}
use Rattle.json_trees.specs.Trees.{view}
use Rattle.repair_json.specs.Changes.{put_at}
use Rattle.repair_json.proofs.changes.others_array.Given as goal

abbrev pub invariant-loop-index : goal.invariant-loop-index
invariant-loop-index l = map view l.trees.items ≡ filter_map (put_at l.players l.repairs) (take l.index-index l.others)
