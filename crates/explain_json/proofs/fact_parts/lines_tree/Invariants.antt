use Rattle.std.proofs.Common.{◌≡◌, map, take}
use Rattle.json_trees.specs.Trees.{view}
use Rattle.json_trees.specs.Values.{count}
use Rattle.explain_json.proofs.fact_parts.lines_tree.Given as goal

abbrev pub invariant-loop-line : goal.invariant-loop-line
invariant-loop-line l = map view l.trees.items ≡ map count (take l.line-index l.lines)
