use Rattle.std.proofs.Common.{◌≡◌, map, take}
use Rattle.json_trees.specs.Trees.{view}
use Rattle.explain_json.specs.Lines.{part_object}
use Rattle.explain_json.proofs.fact_lines.part_lines.Given as goal

abbrev pub invariant-loop-part : goal.invariant-loop-part
invariant-loop-part l = map view l.trees.items ≡ map part_object (take l.part-index l.parts)
