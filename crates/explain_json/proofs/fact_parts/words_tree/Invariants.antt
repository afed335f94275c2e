use Rattle.std.proofs.Common.{◌≡◌, map, take}
use Rattle.json_trees.specs.Trees.{view}
use Rattle.explain_json.specs.Parts.{spelled_value}
use Rattle.explain_json.proofs.fact_parts.words_tree.Given as goal

abbrev pub invariant-loop-word : goal.invariant-loop-word
invariant-loop-word l = map view l.trees.items ≡ map spelled_value (take l.word-index l.words)
