use Rattle.std.proofs.Common.{◌≡◌, map}
use Rattle.json_trees.specs.Trees.{view}
use Rattle.compare_json.specs.Choices.{racks_to}
use Rattle.compare_json.proofs.choices.racks_array.Given as goal

abbrev pub invariant-loop-number : goal.invariant-loop-number
invariant-loop-number l = map view l.trees.items ≡ racks_to l.counts l.choice l.number
