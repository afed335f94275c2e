use Rattle.std.proofs.Common.{◌≡◌, map, take}
use Rattle.json_trees.specs.Trees.{view}
use Rattle.sheet_json.specs.Boards.{row_value}
use Rattle.sheet_json.proofs.boards.rows_array.Given as goal

abbrev pub invariant-loop-row : goal.invariant-loop-row
invariant-loop-row l = map view l.trees.items ≡ map row_value (take l.row-index l.rows)
