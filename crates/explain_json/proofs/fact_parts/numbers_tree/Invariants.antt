use Rattle.std.proofs.Common.{◌≡◌, map, take}
use Rattle.json_trees.specs.Trees.{view}
use Rattle.json_trees.specs.Values.{count}
use Rattle.explain_json.proofs.fact_parts.numbers_tree.Given as goal

abbrev pub invariant-loop-number : goal.invariant-loop-number
invariant-loop-number l = map view l.trees.items ≡ map count (take l.number-index l.numbers)
