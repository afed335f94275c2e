use Rattle.std.proofs.Common.{◌≡◌, map, take}
use Rattle.json_trees.specs.Trees.{view}
use Rattle.sheet_json.specs.Audits.{wrong_object}
use Rattle.sheet_json.proofs.audits.wrong_array.Given as goal

abbrev pub invariant-loop-number : goal.invariant-loop-number
invariant-loop-number l = map view l.trees.items ≡ map (wrong_object l.game) (take l.number-index l.numbers)
