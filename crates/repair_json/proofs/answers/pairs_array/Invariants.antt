use Rattle.std.proofs.Common.{◌≡◌, map, take}
use Rattle.std.specs.List.{filter_map}
use Rattle.json_trees.specs.Trees.{view}
use Rattle.repair_json.specs.Answers.{reported_pair}
use Rattle.repair_json.proofs.answers.pairs_array.Given as goal

abbrev pub invariant-loop-reported : goal.invariant-loop-reported
invariant-loop-reported l = map view l.trees.items ≡ filter_map (reported_pair l.game l.pairs) (take l.reported-index l.lines)
