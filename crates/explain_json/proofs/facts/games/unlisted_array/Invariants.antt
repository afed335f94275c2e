use Rattle.std.proofs.Common.{◌≡◌, map, take}
use Rattle.json_trees.specs.Trees.{view}
use Rattle.explain_json.specs.Games.{unlisted_object}
use Rattle.explain_json.proofs.facts.games.unlisted_array.Given as goal

abbrev pub invariant-loop-play : goal.invariant-loop-play
invariant-loop-play l = map view l.trees.items ≡ map unlisted_object (take l.play-index l.plays)
