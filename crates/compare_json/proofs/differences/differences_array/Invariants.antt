use Rattle.std.proofs.Common.{◌≡◌, map}
use Rattle.std.specs.List.{filter_map, range_with_len}
use Rattle.json_trees.specs.Trees.{view}
use Rattle.compare_json.specs.Differences.{difference_at}
use Rattle.compare_json.proofs.differences.differences_array.Given as goal

abbrev pub invariant-loop-index : goal.invariant-loop-index
invariant-loop-index l = map view l.trees.items ≡ filter_map (difference_at l.sheets l.answers) (range_with_len 0 l.index)
