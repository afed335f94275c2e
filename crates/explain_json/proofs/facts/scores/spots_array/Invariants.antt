use Rattle.std.proofs.Common.{◌≡◌, map, take}
use Rattle.json_trees.specs.Trees.{view}
use Rattle.explain_json.specs.Scores.{spot_object}
use Rattle.explain_json.proofs.facts.scores.spots_array.Given as goal

abbrev pub invariant-loop-spot : goal.invariant-loop-spot
invariant-loop-spot l = map view l.trees.items ≡ map spot_object (take l.spot-index l.spots)
