use Rattle.std.proofs.Common.{◌≡◌, map, take}
use Rattle.json_trees.specs.Trees.{view}
use Rattle.explain_json.specs.Lines.{kind_line_object}
use Rattle.explain_json.proofs.fact_lines.kind_lines.Given as goal

abbrev pub invariant-loop-line : goal.invariant-loop-line
invariant-loop-line l = map view l.trees.items ≡ map kind_line_object (take l.line-index l.lines)
