use Rattle.std.proofs.Common.{◌≡◌, map}
use Rattle.json_trees.specs.Trees.{view}
use Rattle.explain_json.specs.Words.{marked_rows}
use Rattle.explain_json.proofs.boards.marked_array.Given as goal

abbrev pub invariant-loop-row : goal.invariant-loop-row
invariant-loop-row l = map view l.names.items ≡ marked_rows l.squares l.row
