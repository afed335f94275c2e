use Rattle.std.proofs.Common.{◌≡◌, map, take}
use Rattle.json_trees.specs.Trees.{view}
use Rattle.json_base.specs.Values.{unread_object}
use Rattle.json_base.proofs.values.unread_array.Given as goal

abbrev pub invariant-loop-unread : goal.invariant-loop-unread
invariant-loop-unread l = map view l.trees.items ≡ map unread_object (take l.unread-index l.lines)
