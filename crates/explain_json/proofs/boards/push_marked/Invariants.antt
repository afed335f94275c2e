use Rattle.std.proofs.Common.{◌≡◌, ◌++◌, map}
use Rattle.json_trees.specs.Trees.{view}
use Rattle.explain_json.specs.Words.{marked_to}
use Rattle.explain_json.proofs.boards.push_marked.Given as goal

abbrev pub invariant-loop-column : goal.invariant-loop-column
invariant-loop-column l = map view l.names.items ≡ map view l.initial.names.items ++ marked_to l.squares l.row l.column
