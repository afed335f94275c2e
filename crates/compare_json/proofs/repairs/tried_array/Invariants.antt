use Rattle.std.proofs.Common.{◌≡◌, map, take}
use Rattle.json_trees.specs.Trees.{view}
use Rattle.compare_json.specs.Answers.{tried_object}
use Rattle.compare_json.proofs.repairs.tried_array.Given as goal

abbrev pub invariant-loop-tried : goal.invariant-loop-tried
invariant-loop-tried l = map view l.trees.items ≡ map (tried_object l.counts l.players) (take l.tried-index l.choices)
