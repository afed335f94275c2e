use Rattle.std.proofs.Common.{◌≡◌, map}
use Rattle.std.specs.List.{range_with_len}
use Rattle.json_trees.specs.Trees.{view}
use Rattle.explain_json.specs.Words.{row_value}
use Rattle.explain_json.proofs.boards.rows_array.Given as goal

abbrev pub invariant-loop-row : goal.invariant-loop-row
invariant-loop-row l = map view l.trees.items ≡ map (row_value l.squares) (range_with_len 0 l.row)
