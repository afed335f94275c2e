use Rattle.std.proofs.Common.{◌≡◌, map, take}
use Rattle.json_trees.specs.Trees.{view}
use Rattle.game_json.specs.Plays.{play_object}
use Rattle.game_json.proofs.tops.plays_array.Given as goal

abbrev pub invariant-loop-play : goal.invariant-loop-play
invariant-loop-play l = map view l.trees.items ≡ map play_object (take l.play-index l.plays)
