use Rattle.std.proofs.Common.{◌≡◌, map, take}
use Rattle.json_trees.specs.Trees.{view}
use Rattle.explain_json.specs.Words.{word_object}
use Rattle.explain_json.proofs.words.words_array.Given as goal

abbrev pub invariant-loop-word : goal.invariant-loop-word
invariant-loop-word l = map view l.trees.items ≡ map word_object (take l.word-index l.words)
