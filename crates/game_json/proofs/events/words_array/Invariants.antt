use Rattle.std.proofs.Common.{◌≡◌, map, take}
use Rattle.json_trees.specs.Trees.{view}
use Rattle.game_json.specs.Events.{spelled_value}
use Rattle.game_json.proofs.events.words_array.Given as goal

abbrev pub invariant-loop-word : goal.invariant-loop-word
invariant-loop-word l = map view l.trees.items ≡ map spelled_value (take l.word-index l.words)
