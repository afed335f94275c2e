use Rattle.std.proofs.Common.{◌≡◌, map, take}
use Rattle.json_trees.specs.Trees.{view}
use Rattle.repair_json.specs.Evidence.{word_value}
use Rattle.repair_json.proofs.evidence.words_array.Given as goal

abbrev pub invariant-loop-word : goal.invariant-loop-word
invariant-loop-word l = map view l.trees.items ≡ map word_value (take l.word-index l.words)
