use Rattle.std.proofs.Common.{◌≡◌, map, take}
use Rattle.json_trees.specs.Trees.{view}
use Rattle.compare_json.specs.Choices.{choice_object}
use Rattle.compare_json.proofs.choices.choices_array.Given as goal

abbrev pub invariant-loop-choice : goal.invariant-loop-choice
invariant-loop-choice l = map view l.trees.items ≡ map (choice_object l.counts) (take l.choice-index l.choices)
