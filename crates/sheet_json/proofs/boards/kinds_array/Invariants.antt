use Rattle.std.proofs.Common.{◌≡◌, map}
use Rattle.json_trees.specs.Trees.{view}
use Rattle.sheet_json.specs.Boards.{kinds_to}
use Rattle.sheet_json.proofs.boards.kinds_array.Given as goal

abbrev pub invariant-loop-kind : goal.invariant-loop-kind
invariant-loop-kind l = map view l.trees.items ≡ kinds_to l.off l.kind
