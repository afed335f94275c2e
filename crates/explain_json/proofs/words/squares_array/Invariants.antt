use Rattle.std.proofs.Common.{◌≡◌, map, take}
use Rattle.json_trees.specs.Trees.{view}
use Rattle.explain_json.specs.Words.{square_object}
use Rattle.explain_json.proofs.words.squares_array.Given as goal

abbrev pub invariant-loop-square : goal.invariant-loop-square
invariant-loop-square l = map view l.trees.items ≡ map square_object (take l.square-index l.squares)
