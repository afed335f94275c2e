use Rattle.std.proofs.Common.{◌≡◌, map, take}
use Rattle.json_trees.specs.Trees.{view}
use Rattle.explain_json.specs.Lines.{rack_line_object}
use Rattle.explain_json.proofs.fact_lines.rack_lines.Given as goal

abbrev pub invariant-loop-line : goal.invariant-loop-line
invariant-loop-line l = map view l.trees.items ≡ map (rack_line_object l.player) (take l.line-index l.lines)
